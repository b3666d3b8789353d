-- What a look-up in the book below leaves of it, of land and of disk (this project's own).
use Rattle.std.specs.Prelude.{◌≡◌, ◌⊎◌, ℕ, Option, Result, IsOk}
use Rattle.qg_device.specs.History.{History}
use Rattle.qg_refs.specs.Book.{Book}

-- land and disk are as a look-up makes them, or as they were, where nothing had to be looked up
abbrev pub MayLook : {G D : Type 0} → (G → D → G → D → Type 0) → G → D → G → D → Type 0
MayLook looks land disk land' disk' = (looks land disk land' disk') ⊎ ((land' ≡ land) × (disk' ≡ disk))

-- the book stands and tells what it told, and the disk isn't written
pub record LooksUp {G D : Type 0} (stands : G → D → Type 0) (holds : G → D → Option Book)
    (looks : G → D → G → D → Type 0) (history : D → History) (size : D → ℕ) (land : G) (disk : D)
    (land' : G) (disk' : D) : Type 0 where
  pub stood : stands land' disk'
  pub held : holds land' disk' ≡ holds land disk
  pub looked : MayLook looks land disk land' disk'
  pub unwritten : history disk' ≡ history disk
  pub long : size disk' ≡ size disk

-- nothing is read: land, disk and the count of references read are as they were
pub record ReadsNothing {G D : Type 0} (land land' : G) (disk disk' : D) (reads reads' : ℕ) : Type 0 where
  pub lent : land' ≡ land
  pub rests : disk' ≡ disk
  pub unread : reads' ≡ reads

-- nothing is looked up: the answer is Ok, what is known is as it was, and nothing is read
pub record LooksNothingUp {A F E G D : Type 0} (result : Result A F) (known known' : E) (land land' : G)
    (disk disk' : D) (reads reads' : ℕ) : Type 0 where
  pub answered : IsOk result
  pub kept : known' ≡ known
  pub read : ReadsNothing land land' disk disk' reads reads'

-- the disk isn't written
pub record Unwritten {D : Type 0} (history : D → History) (size : D → ℕ) (disk disk' : D) : Type 0 where
  pub told : history disk' ≡ history disk
  pub long : size disk' ≡ size disk
