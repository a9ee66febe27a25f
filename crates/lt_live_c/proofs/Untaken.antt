-- Why no station and no session is taken.
use Rattle.std.proofs.Common.{◌≡◌, ℕ, inl, inr, refl, arith}
use Rattle.lt_live_c.specs.declared.code.TheConstants.{NO_MEMORY}
use Rattle.lt_live_c.specs.declared.content.Content.{Content}
use Rattle.lt_live_c.specs.Taking.{HasStation, HasSession, IsNoStation, IsNoSession, NoStation, NoSession}

module _ (a : Content) where
  pub no_station_so : (code : ℕ) → IsNoStation code a → NoStation code a
  no_station_so code (inl none) = record {
    nothing = λ e. none.1;
    memory = λ e. absurd (omega (arith, e, none.0));
    wrong = λ e. absurd (omega (arith, e, none.0));
    only = inl none.0;
  }
  no_station_so code (inr other) = record {
    nothing = λ e. absurd (omega (arith, e, other.0));
    memory = λ e. absurd (omega (arith, e, other.0));
    wrong = λ e. other.1;
    only = inr (inl other.0);
  }

  pub no_session_so : (code : ℕ) → IsNoSession code a → NoSession code a
  no_session_so code (inl none) = record {
    nothing = λ e. none.1;
    memory = λ e. absurd (omega (arith, e, none.0));
    wrong = λ e. absurd (omega (arith, e, none.0));
    only = inl none.0;
  }
  no_session_so code (inr other) = record {
    nothing = λ e. absurd (omega (arith, e, other.0));
    memory = λ e. absurd (omega (arith, e, other.0));
    wrong = λ e. other.1;
    only = inr (inl other.0);
  }

  pub no_room_for_station : HasStation a → NoStation NO_MEMORY a
  no_room_for_station some = record {
    nothing = λ e. absurd (omega (arith, e));
    memory = λ e. some;
    wrong = λ e. absurd (omega (arith, e));
    only = inr (inr refl);
  }

  pub no_room_for_session : HasSession a → NoSession NO_MEMORY a
  no_room_for_session some = record {
    nothing = λ e. absurd (omega (arith, e));
    memory = λ e. some;
    wrong = λ e. absurd (omega (arith, e));
    only = inr (inr refl);
  }
