use Rattle.up_cache.proofs.Steadiness.{table_steady}
use Rattle.up_cache.proofs.laws.a_table_is_steady.Goals as goal

pub returns : goal.returns
returns c = λ table. table_steady table
