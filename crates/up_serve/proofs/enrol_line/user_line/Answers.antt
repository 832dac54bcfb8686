-- The key is one that a word stands for.
use Rattle.up_serve.proofs.WordLemmas.{key_is}
use Rattle.up_serve.proofs.enrol_line.user_line.Goals as goal

pub plain_card-requires : goal.plain_card-requires
plain_card-requires c =
    let is = c.in-Some-3.is in
    let meant = c.in_ok-key.ensures in
    key_is c.in-Some.key.now c.in-Some-3.key (cc)
