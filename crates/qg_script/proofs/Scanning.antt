-- What is pending while a newline is looked for.
use Rattle.std.proofs.Common.{◌≡◌, ◌≢◌, ℕ, ◌+◌, ◌-◌, ◌<◌, ◌≤◌, List, [], ◌∷◌, ◌++◌, length, take, drop, get_or, Option}
use Rattle.std.proofs.Common.{Some, None, refl, sym, ap, ◌∙◌, subst, inl, inr, arith, append_assoc}
use Rattle.std.specs.List.{AllWithin}
use Rattle.std.specs.Io.KnownBytes.{prepend_known, IsAtEnd}
use Rattle.std.proofs.lemmas.Bool.{cases_lt}
use Rattle.std.proofs.lemmas.List.{append-nil, append_cancel_left, length-take, get_or-take, take_all, drop_all}
use Rattle.std.proofs.lemmas.List.{nil_from_length}
use Rattle.std.proofs.lemmas.List.Elements.{All-contains}
use Rattle.qg_grammar.specs.ScriptText.{script_lines, longest_script}
use Rattle.qg_script.specs.Feeding.{Feeding, IsWithinLimit, handed_out, IsFirstNewline, HoldsLine, HandsOutHeld}
use Rattle.qg_script.specs.Feeding.{TakesMore, within_limit}
use Rattle.qg_script.specs.Lines.{pending, TakesLine, CountsTaken}
use Rattle.qg_script.proofs.FirstLine.{HasNoNewline, script_lines-newline, script_lines-last, at_newline}

-- the first bytes held have no newline, and since the call began bytes were only moved from the source to the feed
pub record IsScanned (start now : Feeding) (before after : Option (List ℕ)) (scanned : ℕ) : Type 0 where
  pub bound : scanned ≤ length now.rest
  pub passed : AllWithin (λ byte. byte ≢ 10) now.rest 0 scanned
  pub same : pending now after ≡ pending start before
  pub counted : CountsTaken before after start.taken now.taken
  pub moved : start.taken + length now.rest ≡ now.taken + length start.rest
  pub no_fewer : start.taken ≤ now.taken
  pub at_limit : start.taken ≡ longest_script + 1 → now ≡ start

-- a line and its newline are taken off the front of what is held
newline_taken : (bytes : List ℕ) (left : Option (List ℕ)) (end taken : ℕ) → end < length bytes → get_or bytes end 0 ≡ 10
    → HasNoNewline (take end bytes)
    → TakesLine (pending (record { taken = taken; rest = bytes }) left)
    (pending (record { taken = taken; rest = drop (end + 1) bytes }) left) (take end bytes)
newline_taken bytes None end taken within is none = tt
newline_taken bytes (Some left) end taken within is none =
    let line = take end bytes in
    let tail = drop (end + 1) bytes in
    let parts : bytes ++ left ≡ line ++ 10 ∷ (tail ++ left) =
    ap (λ (xs : List ℕ). xs ++ left) (at_newline bytes end within is) ∙ append_assoc line (10 ∷ tail) left in
    record {
      first = ap script_lines parts ∙ script_lines-newline line (tail ++ left) none;
      plain = none;
      parted = inl parts;
    }

-- at the end of the source all that is held is the last line
last_taken : (bytes : List ℕ) (before after : Option (List ℕ)) (taken later : ℕ) → IsAtEnd before
    → pending (record { taken = later; rest = bytes }) after ≡ pending (record { taken = taken; rest = bytes }) before
    → 0 < length bytes → HasNoNewline bytes
    → TakesLine (pending (record { taken = taken; rest = bytes }) before)
    (pending (record { taken = later; rest = [] }) after) bytes
last_taken bytes None None taken later end same some none = tt
last_taken bytes None (Some new) taken later end same some none = absurd cc
last_taken bytes (Some old) None taken later end same some none = absurd cc
last_taken bytes (Some old) (Some new) taken later end same some none =
    let all : bytes ++ old ≡ bytes = ap (λ (xs : List ℕ). bytes ++ xs) end ∙ append-nil bytes in
    let unmoved : new ≡ old = append_cancel_left bytes new old (cc) in
    let nothing : new ≡ [] = unmoved ∙ end in
    record {
      first = ap script_lines all ∙ script_lines-last bytes some none
          ∙ ap (λ (xs : List ℕ). bytes ∷ script_lines xs) (sym nothing);
      plain = none;
      parted = inr (all, nothing);
    }

-- no newline up to one place, and none from there up to another that lies among the first `count` bytes
front_passed : (bytes : List ℕ) (count from to : ℕ) → AllWithin (λ byte. byte ≢ 10) bytes 0 from
    → AllWithin (λ byte. byte ≢ 10) (take count bytes) from to
    → to ≤ length (take count bytes) → HasNoNewline (take to bytes)
front_passed bytes count from to passed more within k d low = elim (cases_lt k from) [
  | inl before ↦ λ is. passed k d (omega arith) before
      (sym (get_or-take to bytes k d (omega (arith, length-take to bytes))) ∙ is)
  | inr after ↦
      let size = length-take count bytes in
      let place = length-take to bytes in
      λ is. more k d after (omega arith) (get_or-take count bytes k d (omega arith)
      ∙ sym (get_or-take to bytes k d (omega arith)) ∙ is)
]

-- a newline was found
pub line_found : {start now : Feeding} {before after : Option (List ℕ)} {scanned end : ℕ}
    → IsScanned start now before after scanned
    → IsFirstNewline (within_limit now) scanned end
    → TakesLine (pending start before) (pending (handed_out now end) after) (take end now.rest)
line_found {start} {now} {before} {after} {scanned} {end} so_far found =
    let count = longest_script - (now.taken - length now.rest) in
    let within : end < length now.rest = omega (arith, found.within, length-take count now.rest) in
    let low : end < count = omega (arith, found.within, length-take count now.rest) in
    let newline : get_or now.rest end 0 ≡ 10 = sym (get_or-take count now.rest end 0 low) ∙ found.newline in
    let none = front_passed now.rest count scanned end so_far.passed found.before (omega (arith, found.within)) in
    rw (← so_far.same) (newline_taken now.rest after end now.taken within newline none)

-- where a line was held whole when the call began, a newline is found before more is taken
pub newline_held : (start now : Feeding) (bytes : List ℕ) (scanned : ℕ) → bytes ≡ within_limit now
    → AllWithin (λ byte. byte ≢ 10) bytes scanned (length bytes)
    → scanned ≡ 0 → now ≡ start → HoldsLine start → ⊥
newline_held start now bytes scanned held none from same holds =
    let all : HasNoNewline bytes = λ k d low. none k d (omega arith) low in
    let whole : bytes ≡ within_limit start = held ∙ ap within_limit same in
    All-contains (λ byte. byte ≢ 10) (within_limit start) 10 (subst HasNoNewline whole all) holds refl

-- up to the first newline of what was held when the call began lies the line that is handed out
pub held_found : (start now : Feeding) (scanned end : ℕ) → IsFirstNewline (within_limit now) scanned end → scanned ≡ 0
    → now ≡ start
    → HandsOutHeld start (handed_out now end) (take end now.rest)
held_found start now scanned end found from same =
    let count = longest_script - (now.taken - length now.rest) in
    let within : end < length now.rest = omega (arith, found.within, length-take count now.rest) in
    let low : end < count = omega (arith, found.within, length-take count now.rest) in
    let newline : get_or now.rest end 0 ≡ 10 = sym (get_or-take count now.rest end 0 low) ∙ found.newline in
    record {
      parted = ap (λ (feeding : Feeding). feeding.rest) (sym same) ∙ at_newline now.rest end within newline;
      plain = front_passed now.rest count scanned end (λ k d none past. absurd (omega arith)) found.before
          (omega (arith, found.within));
      taken = ap (λ (feeding : Feeding). feeding.taken) same;
    }

prepend_known-nil : (bytes : List ℕ) (known : Option (List ℕ))
    → prepend_known bytes known ≡ prepend_known bytes (prepend_known [] known)
prepend_known-nil bytes None = refl
prepend_known-nil bytes (Some left) = refl

-- the source is at its end, and something is held
pub rest_found : {start now new : Feeding} {before mid after : Option (List ℕ)} {scanned : ℕ}
    → IsScanned start now before mid scanned
    → AllWithin (λ byte. byte ≢ 10) (within_limit now) scanned (length (within_limit now)) → IsWithinLimit now
    → now.taken ≤ longest_script
    → TakesMore now new mid after 0 → length (within_limit now) ≢ 0
    → TakesLine (pending start before) (pending (handed_out new (length (within_limit now))) after)
    (take (length (within_limit now)) new.rest)
rest_found {start} {now} {new} {before} {mid} {after} {scanned} so_far none limit low more some =
    let all : within_limit now ≡ now.rest = take_all _ now.rest (omega (arith, limit.held)) in
    let nothing : more.bytes ≡ [] = nil_from_length more.bytes more.as_many in
    let kept : new.rest ≡ now.rest = more.rest ∙ ap (λ (xs : List ℕ). now.rest ++ xs) nothing ∙ append-nil now.rest in
    let left : mid ≡ prepend_known [] after = more.left ∙ ap (λ (xs : List ℕ). prepend_known xs after) nothing in
    let same : prepend_known now.rest after ≡ prepend_known now.rest mid =
    prepend_known-nil now.rest after ∙ ap (prepend_known now.rest) (sym left) in
    let passed = front_passed now.rest (longest_script - (now.taken - length now.rest)) scanned
    (length (within_limit now)) so_far.passed none (omega arith) in
    let whole : take (length now.rest) now.rest ≡ now.rest = take_all (length now.rest) now.rest (omega arith) in
    let over : drop (length now.rest + 1) now.rest ≡ [] = drop_all (length now.rest + 1) now.rest (omega arith) in
    let clean : HasNoNewline now.rest = subst HasNoNewline (ap (λ (xs : List ℕ). take (length xs) now.rest) all
    ∙ whole) passed in
    rw (all, kept, whole, over, ← so_far.same)
    (last_taken now.rest mid after now.taken new.taken (more.none_only_at_end refl) same
    (omega (arith, some, ap length all)) clean)
