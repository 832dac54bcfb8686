use Rattle.up_names.proofs.UserLemmas.{user_of-again}
use Rattle.up_names.proofs.users.parse_user.Goals as goal

pub user_from_parts-requires : goal.user_from_parts-requires
user_from_parts-requires c = user_of-again c.args.text.now _ c.in_ok-name.ensures
