use Rattle.registry.specs.Model.{year_in}
use Rattle.law.proofs.Telling.{lawful_next}
use Rattle.registry.proofs.state.Book.call.Goals as goal

pub returns : goal.returns
returns g c =
    record {
      called = c.in_stage.ensures;
      law = λ start p told. lawful_next start p c.args.call c.in_stage.result (year_in c.args.self.now) (year_in c.in_stage.new.self) _ _ _ _ c.in_stage.ensures told;
    }
