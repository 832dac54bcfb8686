-- What contracts see of a disk with a hook. This project's own.
use Rattle.up_disk.specs.declared.memory.MemDisk.{MemDisk}
use Rattle.up_disk.specs.declared.hook.HookDisk.{HookDisk}

-- the disk below the hook
abbrev pub disk_of : {H : Type 0} → HookDisk H → MemDisk
disk_of hooked = hooked.disk

-- the hook
abbrev pub hook_of : {H : Type 0} → HookDisk H → H
hook_of hooked = hooked.hook
