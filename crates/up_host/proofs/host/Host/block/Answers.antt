use Rattle.std.proofs.Common.{refl}
use Rattle.up_host.proofs.host.Host.block.Goals as goal

pub returns : goal.returns
returns g c = rw (← c.self.view_is) (record { store = c.get.new.self; whole = refl; gives = c.get.ensures.gives; quiet = c.get.ensures.quiet })
