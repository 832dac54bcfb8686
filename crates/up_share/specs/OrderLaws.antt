-- The order of readers is total, which the traits of an order want of it.
use Rattle.std.specs.Cmp.{IsTotalOrder, nat_cmp_total, on_total, then_total}
use Rattle.std.proofs.lemmas.Cmp.{nat_list_cmp_total}
use Rattle.up_names.specs.PathOrderLaws.{path_cmp_total}
use Rattle.up_share.specs.Orders.{item_cmp, name_in, path_in, rank}

-- the order of items is a total order
pub item_cmp_total : IsTotalOrder item_cmp
item_cmp_total =
    then_total (on_total rank nat_cmp_total) (then_total (on_total name_in nat_list_cmp_total) (on_total path_in path_cmp_total))
