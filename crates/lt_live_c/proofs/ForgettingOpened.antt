-- What follows from each code of a call that lets a station forget.
use Rattle.std.proofs.Common.{ℕ, Some, None, refl, ap}
use Rattle.lt_node.specs.NodeData.{state_of}
use Rattle.lt_runner.specs.declared.parts.Parts.{Parts}
use Rattle.lt_live.specs.Stations.{StationData}
use Rattle.lt_live_c.specs.declared.content.Content.TheVariants as contents
use Rattle.lt_live_c.specs.Forgetting.{ForgetsStation}
use Rattle.lt_live_c.specs.Told.{AfterForget, ForgetsTold}

after_forget : (code : ℕ) (Told : StationData → StationData → Type 0)
    → ((a b : StationData) → ForgetsStation code a b → Told a b) → AfterForget code Told
after_forget code Told says a None h = absurd h
after_forget code Told says a (Some (contents.Service s)) h = absurd h
after_forget code Told says a (Some (contents.Station b)) h = says a b h
after_forget code Told says a (Some (contents.Session s)) h = absurd h
after_forget code Told says a (Some (contents.Journal journal)) h = absurd h
after_forget code Told says a (Some (contents.Node node)) h = absurd h

pub forgets_told : ForgetsTold
forgets_told = record {
  moves = after_forget 0 _ (λ a b h. h.moves refl);
  commands = after_forget 0 _ (λ a b h. h.commands refl);
  commands_kept = after_forget 3 _ (λ a b h. h.kept refl);
  same_moves = λ code. after_forget code _ (λ a b h. h.runner.moves);
  same_script = λ code. after_forget code _ (λ a b h. ap (λ (p : Parts). p.node.script) h.runner.rest);
  same_node = λ code. after_forget code _ (λ a b h. ap (λ (p : Parts). p.node.me) h.runner.rest);
  same_state = λ code. after_forget code _ (λ a b h. ap (λ (p : Parts). state_of p.node) h.runner.rest);
  same_mail = λ code. after_forget code _ (λ a b h. ap (λ (p : Parts). p.mail) h.runner.rest);
  same_hand = λ code. after_forget code _ (λ a b h. ap (λ (p : Parts). p.hand) h.runner.rest);
  same_limit = λ code. after_forget code _ (λ a b h. ap (λ (p : Parts). p.limit) h.runner.rest);
  only = λ code. after_forget code _ (λ a b h. h.only);
}
