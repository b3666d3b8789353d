-- Inner nodes from lists of pointers that were cut or joined.
use Rattle.std.proofs.Common.{◌≡◌, ℕ, ◌≤◌, List, ◌++◌, length-append, refl, ap, arith, Result, Ok, Err}
use Rattle.std.specs.Prelude.{IfOk}
use Rattle.std.specs.List.{sum_by}
use Rattle.qg_num.specs.declared.fault.NoMemory.{NoMemory}
use Rattle.qg_node.specs.declared.pointer.Pointer.{Pointer}
use Rattle.qg_node.specs.declared.node.Header.{Header}
use Rattle.qg_node.specs.declared.node.Node.TheVariants.{Inner}
use Rattle.qg_super.specs.Places.{capacity}
use Rattle.qg_shape.specs.declared.joining.Joined.{Joined}
use Rattle.qg_shape.specs.declared.joining.Joined.TheVariants.{Whole, Parted}
use Rattle.qg_shape.specs.Cut.{AreJoined, Fills, IsCut}
use Rattle.qg_shape.specs.Filled.{IsFilled}
use Rattle.qg_shape.specs.Outcomes.{IsJoined, IsSplit}
use Rattle.qg_shape.proofs.Weights.{sum_by-same}

-- what each pointer takes
abbrev pub pointer_bytes : Pointer → ℕ
pointer_bytes _ = 33

filled : (nodesize : ℕ) (header : Header) (pointers : List Pointer) → 101 ≤ nodesize
    → Fills (capacity nodesize) (sum_by pointer_bytes pointers) → IsFilled nodesize (Inner header pointers)
filled nodesize header pointers wide fills =
    let weighs = sum_by-same 33 pointers in
    record { fits = omega (arith, weighs, fills.fits); full = omega (arith, weighs, fills.full) }

pub IsSplit-inner : (nodesize address : ℕ) (header told : Header) (all front rest : List Pointer) → 101 ≤ nodesize
    → told ≡ header → IsCut pointer_bytes (capacity nodesize) all front rest
    → IsSplit nodesize address (Inner header all) (Inner header front)
    (Inner (record { address = address; generation = told.generation; owner = told.owner; level = told.level })
    rest)
IsSplit-inner nodesize address header told all front rest wide same cut =
    let made : Header = record {
      address = address;
      generation = told.generation;
      owner = told.owner;
      level = told.level;
    } in
    record {
      whole = ap (λ (pointers : List Pointer). Inner header pointers) cut.whole;
      alike = tt;
      header = ap (λ (old : Header). record old { address = address }) same;
      front_filled = filled nodesize header front wide cut.front_fills;
      rest_filled = filled nodesize made rest wide cut.rest_fills;
    }

pub IsJoined-inner : (nodesize : ℕ) (header header' : Header) (left right new_left new_right : List Pointer)
    (joined : Result Joined NoMemory) → 101 ≤ nodesize
    → IfOk joined (λ joined. AreJoined pointer_bytes (capacity nodesize) (left ++ right) new_left new_right joined)
    → IfOk joined (λ joined. IsJoined nodesize (Inner header left) (Inner header' right) (Inner header new_left)
    (Inner header' new_right) joined)
IsJoined-inner nodesize header header' left right new_left new_right (Ok Whole) wide one =
    let weighs = sum_by-same 33 (left ++ right) in
    record {
      all = ap (λ (pointers : List Pointer). Inner header pointers) one.all_left;
      none = ap (λ (pointers : List Pointer). Inner header' pointers) one.none;
      fits = rw one.all_left (omega (arith, weighs, one.fits));
    }
IsJoined-inner nodesize header header' left right new_left new_right (Ok Parted) wide parted =
    let weighs = sum_by-same 33 (left ++ right) in
    record {
      heavy = omega (arith, weighs, parted.0, length-append left right);
      whole = ap (λ (pointers : List Pointer). Inner header pointers) parted.1.whole;
      alike = tt;
      header = refl;
      left_filled = filled nodesize header new_left wide parted.1.front_fills;
      right_filled = filled nodesize header' new_right wide parted.1.rest_fills;
    }
IsJoined-inner nodesize header header' left right new_left new_right (Err e) wide nothing = nothing
