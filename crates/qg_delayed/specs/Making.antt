-- Edits of a book in turn, what is asked of the book for them, and what they make (this project's own).
use Rattle.std.specs.Prelude.{◌≡◌, ⊤, ℕ, zero, suc, ◌<◌, List, [], ◌∷◌, ◌++◌, length, Option, Some, None}
use Rattle.qg_refs.specs.Book.{Book, IsBook, Adds, Drops, Marks, Turns, count_at, references_at}
use Rattle.qg_refs.specs.Counts.{greatest_count}
use Rattle.qg_delayed.specs.declared.edit.Edit.{Edit}
use Rattle.qg_delayed.specs.declared.edit.Edit.TheVariants.{Add, Drop, SetFull}

-- what an edit makes of a book
abbrev pub Makes : Edit → Book → Book → Type 0
Makes (Add at what reference) old new = Adds old new at what reference
Makes (Drop at reference) old new = Drops old new at reference
Makes (SetFull at) old new = Marks old new at

-- a book can take an edit: a reference more is one that it may hold, one less is there, what is full has some
abbrev pub May : Edit → Book → Type 0
May (Add at what reference) book = count_at book at reference < greatest_count reference
May (Drop at reference) book = 0 < count_at book at reference
May (SetFull at) book = 0 < length (references_at book at)

-- it can take edits in turn
abbrev pub MayAll : List Edit → Book → Type 0
MayAll [] book = ⊤
MayAll (edit ∷ edits) book = (May edit book) × ((next : Book) → IsBook next → Makes edit book next → MayAll edits next)

-- edits are made in turn
abbrev pub MakesAll : List Edit → Book → Book → Type 0
MakesAll [] old new = new ≡ old
MakesAll (edit ∷ edits) old new = (mid : Book) × (IsBook mid) × (Makes edit old mid) × MakesAll edits mid new

-- the book has room for edits in turn: for the first, and, whatever that leaves, for the rest
abbrev pub HasRoomFor : {S G D : Type 0} → (stands : S → G → D → Type 0) → (holds : S → G → D → Option Book)
    → (has_room : S → G → D → Type 0) → (edits : G → D → G → D → Type 0) → List Edit → S → G → D → Type 0
HasRoomFor stands holds has_room edits [] book land disk = ⊤
HasRoomFor {S} {G} {D} stands holds has_room edits (edit ∷ more) book land disk = (has_room book land disk)
    × ((book' : S) (land' : G) (disk' : D) → stands book' land' disk' → edits land disk land' disk'
    → Turns (Makes edit) (holds book land disk) (holds book' land' disk')
    → HasRoomFor stands holds has_room edits more book' land' disk')

-- edits can be made: the book stands, can take them where it tells what it has, and has room for them
pub record CanMake {S G D : Type 0} (stands : S → G → D → Type 0) (holds : S → G → D → Option Book)
    (has_room : S → G → D → Type 0) (edits : G → D → G → D → Type 0) (made : List Edit) (book : S) (land : G)
    (disk : D) : Type 0 where
  pub stood : stands book land disk
  pub may : (below : Book) → holds book land disk ≡ Some below → MayAll made below
  pub room : HasRoomFor stands holds has_room edits made book land disk

-- edits are made: the book stands, tells what they make of what it told, and nothing where it told nothing; and where
-- it had room for more behind them, it has room for that
pub record HasMade {S G D : Type 0} (stands : S → G → D → Type 0) (holds : S → G → D → Option Book)
    (has_room : S → G → D → Type 0) (edits : G → D → G → D → Type 0) (made : List Edit) (book : S) (land : G)
    (disk : D) (book' : S) (land' : G) (disk' : D) : Type 0 where
  pub stood : stands book' land' disk'
  pub turned : Turns (MakesAll made) (holds book land disk) (holds book' land' disk')
  pub untold : holds book land disk ≡ None → holds book' land' disk' ≡ None
  pub room : (more : List Edit) → HasRoomFor stands holds has_room edits (made ++ more) book land disk
      → HasRoomFor stands holds has_room edits more book' land' disk'

-- ---- land and disk

-- as so many edits leave them, one after the other
abbrev pub LeftByTimes : {G D : Type 0} → (G → D → G → D → Type 0) → ℕ → G → D → G → D → Type 0
LeftByTimes edits zero land disk land' disk' = (land' ≡ land) × (disk' ≡ disk)
LeftByTimes {G} {D} edits (suc times) land disk land' disk' = (mid : G) × (between : D)
    × (edits land disk mid between) × LeftByTimes edits times mid between land' disk'

-- as some edits leave them, one after the other
pub record LeftByEdits {G D : Type 0} (edits : G → D → G → D → Type 0) (land : G) (disk : D) (land' : G)
    (disk' : D) : Type 0 where
  pub times : ℕ
  pub so : LeftByTimes edits times land disk land' disk'
