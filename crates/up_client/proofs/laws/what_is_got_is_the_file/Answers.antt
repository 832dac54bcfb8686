use Rattle.std.proofs.Common.{◌≡◌, refl}
use Rattle.up_client.specs.Tables.{AnswersFrom}
use Rattle.up_client.proofs.Files.{file_got, table_steady}
use Rattle.up_client.proofs.laws.what_is_got_is_the_file.Goals as goal

pub returns : goal.returns
returns c = λ path old new bytes held. file_got AnswersFrom old.rows (λ other. other.rows ≡ old.rows) (table_steady old) path bytes old new refl held
