use Rattle.up_names.proofs.UserLemmas.{user_of-again}
use Rattle.up_names.proofs.users.User.read.Goals as goal

pub set-requires : goal.set-requires
set-requires c = user_of-again c.args.text.now _ c.in_ok-name.ensures
