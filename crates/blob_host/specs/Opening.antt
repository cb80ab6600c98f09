-- What a disk shows once it is open.
use Rattle.sqlite_disk.specs.Disk.{Only}
use Rattle.sqlite_disk.specs.declared.Disk.{Ghosts}
use Rattle.std.specs.Prelude.{IsTrue, List, ℕ, ◌≡◌}

-- the disk shows these bytes, no answer of it is known to be false, and no call of it has failed
pub record Shows {D : Type 0} (g : Ghosts D) (bytes : List ℕ) (disk : D) : Type 0 where
  pub usable : IsTrue (g.is_usable disk)
  pub clean : IsTrue (g.is_clean disk)
  pub seen : g.seen disk ≡ bytes
  pub faultless : g.faults disk ≡ 0

-- the same, and a crash leaves these bytes
pub record Holds {D : Type 0} (g : Ghosts D) (bytes : List ℕ) (disk : D) : Type 0 where
  pub shows : Shows g bytes disk
  pub synced : Only bytes (g.may_leave disk)
