use Rattle.digits.proofs.Turns.{read_back, written_back}
use Rattle.digits.proofs.laws.lines_turn_back.Goals as goal

pub returns-clause-read_back : goal.returns-clause-read_back
returns-clause-read_back c = read_back

pub returns-clause-written_back : goal.returns-clause-written_back
returns-clause-written_back c = written_back
