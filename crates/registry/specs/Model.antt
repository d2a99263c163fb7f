-- The year that a book holds, and what a call promises in its stage.
use Rattle.std.specs.Prelude.{◌≡◌, ℕ, true}
use Rattle.registers.specs.Held.{rows}
use Rattle.rules.specs.declared.calls.Call.{Call}
use Rattle.rules.specs.Year.{Year}
use Rattle.rules.specs.Judgement.{Answer, needs}
use Rattle.rules.specs.Calls.{Called}
use Rattle.registry.specs.declared.state.Book.{Book}
use Rattle.registry.specs.Phases.{stage_of, half_hours_of, security_of, shortage_of, surplus_of}

abbrev pub year_in : Book → Year
year_in b =
    record {
      stage = stage_of b.phase;
      n = half_hours_of b.phase;
      security = security_of b.phase;
      shortage = shortage_of b.phase;
      surplus = surplus_of b.phase;
      accounts = rows b.accounts;
      entities = rows b.entities;
      offers = rows b.offers;
    }

-- In the stage that it needs, a call does as it should.
abbrev pub CalledInStage : Call → Answer → Year → Year → (ℕ → ℕ) → (ℕ → ℕ) → ℕ → ℕ → Type 0
CalledInStage c r y y' f g m n = needs c y.stage ≡ true → Called c r y y' f g m n
