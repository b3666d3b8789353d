-- What is true of each file of a table, and of the one with a number.
use Rattle.std.proofs.Common.{◌≡◌, ℕ, true, List, [], ◌∷◌, Some, refl, sym, subst, ◌∙◌, inl, inr}
use Rattle.std.specs.Prelude.{◌==◌}
use Rattle.std.specs.List.{AllByRecursion}
use Rattle.std.proofs.lemmas.Bool.{cases_Bool, eqb-true}
use Rattle.std.proofs.lemmas.List.Elements.{recursion_from_All}
use Rattle.std.proofs.lemmas.Option.{none-some, same_Some}
use Rattle.qg_image.specs.declared.file.File.{File}
use Rattle.qg_image.specs.FilesOf.{are_pieces}
use Rattle.qg_image.specs.Table.{value_at}
use Rattle.qg_image.proofs.Pieces.{WholeFile-is_file}
use Rattle.qg_tree_items.specs.Writable.{AreWritableFiles, IsWritableFile}

found : (P : ℕ × File → Type 0) (ino : ℕ) (file : File) (files : List (ℕ × File)) → value_at ino files ≡ Some file
    → AllByRecursion P files → P (ino, file)
found P ino file [] is all = absurd (none-some file is)
found P ino file (entry ∷ files) is all = elim (cases_Bool (entry.0 == ino)) [
  | inl here ↦
      let number = eqb-true entry.0 ino here in
      let same = same_Some entry.1 file (sym (rw here refl) ∙ is) in
      subst (λ (f : File). P (ino, f)) same (subst (λ (n : ℕ). P (n, entry.1)) number all.0)
  | inr later ↦ found P ino file files (sym (rw later refl) ∙ is) all.1
]

pub sound-pieces : (ino : ℕ) (file : File) (files : List (ℕ × File)) → AreWritableFiles files
    → value_at ino files ≡ Some file
    → are_pieces 0 file.size file.pieces ≡ true
sound-pieces ino file files are there =
    let is = found IsWritableFile ino file files there (recursion_from_All IsWritableFile files are.each) in
    (WholeFile-is_file file is.sound).pieces
