-- What a tree may hold says something (this project's own).
use Rattle.std.specs.Prelude.{◌≡◌, ℕ, Bool, true, Option, Some, None, IsTrue, is_some, refl}
use Rattle.qg_image.specs.Types.{Item}
use Rattle.qg_image.specs.ItemMeaning.{some_passes, root_part, extent_part, quota_part, file_part}
use Rattle.qg_image.specs.FilesOf.{is_file_item}
use Rattle.qg_image.specs.declared.tree.TreeKind.TheVariants.{Roots, Extents, Quotas, Files}
use Rattle.qg_image.specs.Walk.{is_item_of}

-- what passes a test is there
some_passed : {A : Type 0} (test : A → Bool) (o : Option A) → some_passes test o ≡ true → is_some o ≡ true
some_passed test None h = h
some_passed test (Some x) h = refl

-- so an item that the root tree may hold says something
pub root_said : (generation : ℕ) (item : Item) → IsTrue (is_item_of Roots generation item)
    → IsTrue (is_some (root_part item))
unfolding is_item_of
root_said generation item h = some_passed _ _ h

-- and one that the extent tree may hold
pub extent_said : (generation : ℕ) (item : Item) → IsTrue (is_item_of Extents generation item)
    → IsTrue (is_some (extent_part item))
unfolding is_item_of
extent_said generation item h = some_passed _ _ h

-- and one that the quota tree may hold
pub quota_said : (generation : ℕ) (item : Item) → IsTrue (is_item_of Quotas generation item)
    → IsTrue (is_some (quota_part item))
unfolding is_item_of
quota_said generation item h = some_passed _ _ h

-- and one that a subvolume's tree may hold
pub file_said : (generation : ℕ) (item : Item) → IsTrue (is_item_of Files generation item)
    → IsTrue (is_some (file_part item))
unfolding is_item_of is_file_item
file_said generation item h = some_passed _ _ h
