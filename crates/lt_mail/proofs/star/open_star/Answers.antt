-- All rings.
use Rattle.std.proofs.Common.{◌≡◌, ℕ, subst, arith}
use Rattle.lt_mail.specs.Star.{StarGrows}
use Rattle.lt_mail.proofs.StarLemmas.{ring_each_way, star_made}
use Rattle.lt_mail.proofs.star.open_star.Goals as goal

pub loop-preserved : goal.loop-preserved
loop-preserved c =
    ring_each_way c.args.me c.args.capacity c.loop.counter c.loop.mail c.loop.far c.add_ring.new.out c.add_ring.new.into
    c.add_ring-in-loop.new.into c.add_ring-in-loop.new.out c.loop.invariant c.in_ok-add_ring.ensures c.in_ok-add_ring-2.ensures

pub returns : goal.returns
returns c =
    let all : c.loop.counter ≡ c.args.nodes = omega (arith, c.loop.auto.counter-end, c.loop-test.false) in
    star_made c.args.me c.args.capacity c.args.nodes c.loop.mail c.loop.far c.requires.capacity.0
    (subst (λ (n : ℕ). StarGrows c.args.me c.args.capacity n c.loop.mail c.loop.far) all c.loop.invariant)
