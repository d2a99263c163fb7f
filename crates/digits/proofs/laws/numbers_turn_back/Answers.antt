use Rattle.digits.proofs.Turns.{field_back, signed_back, bytes_back}
use Rattle.digits.proofs.laws.numbers_turn_back.Goals as goal

pub returns : goal.returns
returns c = record { field_back = field_back; signed_back = signed_back; bytes_back = bytes_back }
