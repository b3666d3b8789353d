-- How far a piece is written to a writer.
use Rattle.std.proofs.Common.{◌≡◌, ℕ, List, [], ◌++◌, length, take, drop, Option, Some, None, refl, sym, ap, ◌∙◌, subst}
use Rattle.std.proofs.Common.{append_assoc, append-nil, take-append-drop}
use Rattle.std.proofs.Math.Seq.{take-append_seam}
use Rattle.std.specs.Io.KnownBytes.{Keeps, Appends}
use Rattle.qg_edge.specs.Appended.{WritesFront}

-- a front of the piece is written, and the rest is not
pub record Written (old new : Option (List ℕ)) (rest piece : List ℕ) : Type 0 where
  pub front : List ℕ
  pub parts : front ++ rest ≡ piece
  pub grown : Appends old new front

Appends-nil : (known : Option (List ℕ)) → Appends known known []
Appends-nil None = tt
Appends-nil (Some bytes) = sym (append-nil bytes)

Appends-append : (a b c : Option (List ℕ)) (xs ys : List ℕ) → Appends a b xs → Appends b c ys → Appends a c (xs ++ ys)
Appends-append None b c xs ys first second = tt
Appends-append (Some old) None c xs ys first second = absurd first
Appends-append (Some old) (Some mid) None xs ys first second = absurd second
Appends-append (Some old) (Some mid) (Some new) xs ys first second =
    second ∙ ap (λ l. l ++ ys) first ∙ append_assoc old xs ys

Appends-kept : (a b c : Option (List ℕ)) (xs : List ℕ) → Appends a b xs → Keeps b c → Appends a c xs
Appends-kept None b c xs first same = tt
Appends-kept (Some old) None c xs first same = absurd first
Appends-kept (Some old) (Some mid) None xs first same = absurd same
Appends-kept (Some old) (Some mid) (Some new) xs first same = same ∙ first

-- nothing is written yet
pub none_written : (old : Option (List ℕ)) (piece : List ℕ) → Written old old piece piece
none_written old piece = record { front = []; parts = refl; grown = Appends-nil old }

-- n bytes more are written
pub more_written : {old mid : Option (List ℕ)} {rest piece : List ℕ} (n : ℕ) (new : Option (List ℕ))
    → Written old mid rest piece → Appends mid new (take n rest) → Written old new (drop n rest) piece
more_written {old} {mid} {rest} {piece} n new so_far more = record {
  front = so_far.front ++ take n rest;
  parts =
      append_assoc so_far.front (take n rest) (drop n rest)
      ∙ ap (λ l. so_far.front ++ l) (take-append-drop n rest)
      ∙ so_far.parts;
  grown = Appends-append old mid new so_far.front (take n rest) so_far.grown more;
}

-- no byte more is written
pub none_more_written : {old mid : Option (List ℕ)} {rest piece : List ℕ} (new : Option (List ℕ))
    → Written old mid rest piece → Keeps mid new → Written old new rest piece
none_more_written {old} {mid} new so_far same = record {
  front = so_far.front;
  parts = so_far.parts;
  grown = Appends-kept old mid new so_far.front so_far.grown same;
}

-- no rest is left
pub all_written : {old new : Option (List ℕ)} {rest piece : List ℕ} → Written old new rest piece → rest ≡ []
    → Appends old new piece
all_written {old} {new} {rest} {piece} so_far over =
    let whole : so_far.front ≡ piece = sym (append-nil so_far.front) ∙ ap (λ l. so_far.front ++ l) (sym over)
    ∙ so_far.parts in
    subst (λ l. Appends old new l) whole so_far.grown

-- what is written is a front
pub front_written : {old new : Option (List ℕ)} {rest piece : List ℕ} → Written old new rest piece
    → WritesFront old new piece
front_written {old} {new} {rest} {piece} so_far =
    let n = length so_far.front in
    let front : so_far.front ≡ take n piece = sym (take-append_seam so_far.front rest) ∙ ap (take n) so_far.parts in
    record { count = n; written = subst (λ l. Appends old new l) front so_far.grown }
