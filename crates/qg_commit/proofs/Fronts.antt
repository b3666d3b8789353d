-- How far calls came, call by call.
use Rattle.std.proofs.Common.{◌≡◌, ◌≤◌, ◌-◌, inl, inr, ℕ, List, [], ◌∷◌, ◌++◌, length, refl, sym, ap, subst, ◌∙◌}
use Rattle.std.proofs.Common.{append_assoc}
use Rattle.std.specs.Prelude.{IfErr, Result, Ok, Err}
use Rattle.std.proofs.lemmas.List.{map-append}
use Rattle.qg_device.specs.History.{Event, History, Recorded, Unrecorded, Wrote, Tore, Cut, CutShort, Synced, content}
use Rattle.qg_device.specs.History.{history_after, with_event}
use Rattle.qg_disk.specs.declared.fault.DiskFault.{DiskFault}
use Rattle.qg_disk.specs.declared.fault.DiskFault.TheVariants.{Failed, NoMemory}
use Rattle.qg_disk.specs.Disk.{Cuts, Syncs, Writes}
use Rattle.qg_node.specs.declared.node.Node.{Node}
use Rattle.qg_node.specs.Nodes.{header_of}
use Rattle.qg_node.specs.NodeText.{node_text}
use Rattle.qg_super.specs.declared.superblock.Super.{Super}
use Rattle.qg_commit.specs.Calls.{Call, CutTo, WriteAt, Sync, IsFrontOfCalls, MadeFront, commit_calls, node_calls}
use Rattle.qg_commit.specs.Calls.{unsure_calls, unsure_superblock_calls, with_call, with_calls}

-- from one history to another calls came so far
abbrev pub ComesTo : List Call → History → History → Type 0
ComesTo calls old new = (events : List Event) → old ≡ Recorded events → MadeFront calls events new

-- no call was made
front-none : (calls : List Call) (events : List Event) → IsFrontOfCalls calls events events
front-none [] events = refl
front-none (call ∷ calls) events = inl refl

pub comes-none : (calls : List Call) (old new : History) → new ≡ old → ComesTo calls old new
comes-none calls old new same = λ events told. record {
  after = events;
  told = same ∙ told;
  front = front-none calls events;
}

-- the first was made, or failed
pub comes-write : (at : ℕ) (bytes : List ℕ) (calls : List Call) (old new : History)
    (result : Result Unit DiskFault) → Writes old new result at bytes → ComesTo (WriteAt at bytes ∷ calls) old new
comes-write at bytes calls old new (Ok done) is = λ events told. record {
  after = Wrote at bytes ∷ events;
  told = is ∙ ap (with_event (Wrote at bytes)) told;
  front = inr (inr (front-none calls (Wrote at bytes ∷ events)));
}
comes-write at bytes calls old new (Err Failed) is = λ events told. record {
  after = Tore at bytes is.0 ∷ events;
  told = is.2 ∙ ap (with_event (Tore at bytes is.0)) told;
  front = inr (inl (is.0, is.1, refl));
}
comes-write at bytes calls old new (Err NoMemory) is = comes-none (WriteAt at bytes ∷ calls) old new is

pub comes-sync : (calls : List Call) (old new : History) (result : Result Unit DiskFault)
    → Syncs old new result → ComesTo (Sync ∷ calls) old new
comes-sync calls old new (Ok done) is = λ events told. record {
  after = Synced ∷ events;
  told = is ∙ ap (with_event Synced) told;
  front = inr (inr (front-none calls (Synced ∷ events)));
}
comes-sync calls old new (Err fault) is = comes-none (Sync ∷ calls) old new is

-- of a disk whose size is that of what it holds, where that is told
pub comes-cut : (len : ℕ) (calls : List Call) (old new : History) (size : ℕ) (result : Result Unit DiskFault)
    → ((events : List Event) → old ≡ Recorded events → size ≡ length (content events))
    → Cuts old new result size len → ComesTo (CutTo len ∷ calls) old new
comes-cut len calls old new size (Ok done) sized is = λ events told. record {
  after = Cut len ∷ events;
  told = is ∙ ap (with_event (Cut len)) told;
  front = inr (inr (front-none calls (Cut len ∷ events)));
}
comes-cut len calls old new size (Err Failed) sized is = λ events told. record {
  after = CutShort len is.0 ∷ events;
  told = is.2 ∙ ap (with_event (CutShort len is.0)) told;
  front = inr (inl (is.0, subst (λ (n : ℕ). length is.0 ≤ n - len) (sized events told) is.1, refl));
}
comes-cut len calls old new size (Err NoMemory) sized is = comes-none (CutTo len ∷ calls) old new is

-- the first was made, and then later ones came so far
pub comes-later : (call : Call) (calls : List Call) (old mid new : History)
    → mid ≡ history_after (with_call call) old → ComesTo calls mid new → ComesTo (call ∷ calls) old new
comes-later call calls old mid new made later = λ events told.
    let then = later (with_call call events) (made ∙ ap (history_after (with_call call)) told) in
    record { after = then.after; told = then.told; front = inr (inr then.front) }

wrote_so : (at : ℕ) (bytes : List ℕ) (old : History)
    → with_event (Wrote at bytes) old ≡ history_after (with_call (WriteAt at bytes)) old
wrote_so at bytes (Recorded events) = refl
wrote_so at bytes (Unrecorded changes) = refl

cut_so : (len : ℕ) (old : History) → with_event (Cut len) old ≡ history_after (with_call (CutTo len)) old
cut_so len (Recorded events) = refl
cut_so len (Unrecorded changes) = refl

synced_so : (old : History) → with_event Synced old ≡ history_after (with_call Sync) old
synced_so (Recorded events) = refl
synced_so (Unrecorded changes) = refl

pub comes-written : (at : ℕ) (bytes : List ℕ) (calls : List Call) (old mid new : History)
    → mid ≡ with_event (Wrote at bytes) old → ComesTo calls mid new → ComesTo (WriteAt at bytes ∷ calls) old new
comes-written at bytes calls old mid new made later =
    comes-later (WriteAt at bytes) calls old mid new (made ∙ wrote_so at bytes old) later

pub comes-cut_so : (len : ℕ) (calls : List Call) (old mid new : History) → mid ≡ with_event (Cut len) old
    → ComesTo calls mid new → ComesTo (CutTo len ∷ calls) old new
comes-cut_so len calls old mid new made later = comes-later (CutTo len) calls old mid new (made ∙ cut_so len old) later

pub comes-synced : (calls : List Call) (old mid new : History) → mid ≡ with_event Synced old
    → ComesTo calls mid new → ComesTo (Sync ∷ calls) old new
comes-synced calls old mid new made later = comes-later Sync calls old mid new (made ∙ synced_so old) later

-- so they came where one failed
pub comes-err : {A E : Type 0} (result : Result A E) (calls : List Call) (old new : History) → ComesTo calls old new
    → (events : List Event) → old ≡ Recorded events → IfErr result (λ fault. MadeFront calls events new)
comes-err (Ok done) calls old new comes events told = tt
comes-err (Err fault) calls old new comes events told = comes events told

-- ---- calls in front of others

-- some of the first calls were made
front-more : (front back : List Call) (events after : List Event) → IsFrontOfCalls front events after
    → IsFrontOfCalls (front ++ back) events after
front-more [] back events after is = subst (IsFrontOfCalls back events) (sym is) (front-none back events)
front-more (call ∷ front) back events after (inl none) = inl none
front-more (call ∷ front) back events after (inr (inl fails)) = inr (inl fails)
front-more (call ∷ front) back events after (inr (inr later)) =
    inr (inr (front-more front back (with_call call events) after later))

pub comes-more : (front back : List Call) (old new : History) → ComesTo front old new
    → ComesTo (front ++ back) old new
comes-more front back old new comes = λ events told.
    let made = comes events told in
    record { after = made.after; told = made.told; front = front-more front back events made.after made.front }

-- the first calls were made, and some of those behind
front-behind : (front back : List Call) (events after : List Event)
    → IsFrontOfCalls back (with_calls front events) after
    → IsFrontOfCalls (front ++ back) events after
front-behind [] back events after is = is
front-behind (call ∷ front) back events after is = inr (inr (front-behind front back (with_call call events) after is))

pub comes-behind : (front back : List Call) (old mid new : History)
    → mid ≡ history_after (with_calls front) old → ComesTo back mid new → ComesTo (front ++ back) old new
comes-behind front back old mid new made later = λ events told.
    let then = later (with_calls front events) (made ∙ ap (history_after (with_calls front)) told) in
    record { after = then.after; told = then.told; front = front-behind front back events then.after then.front }

-- all were made
front-all : (calls : List Call) (events : List Event) → IsFrontOfCalls calls events (with_calls calls events)
front-all [] events = refl
front-all (call ∷ calls) events = inr (inr (front-all calls (with_call call events)))

pub comes-all : (calls : List Call) (old new : History) → new ≡ history_after (with_calls calls) old
    → ComesTo calls old new
comes-all calls old new made = λ events told. record {
  after = with_calls calls events;
  told = made ∙ ap (history_after (with_calls calls)) told;
  front = front-all calls events;
}

-- ---- nodes

pub apart : (nodesize : ℕ) (front back : List Node) → node_calls nodesize front ++ node_calls nodesize back
    ≡ node_calls nodesize (front ++ back)
apart nodesize front back =
    sym (map-append (λ (node : Node). WriteAt (header_of node).address (node_text nodesize node)) front back)

pub nodes-more : (nodesize : ℕ) (front back : List Node) (old new : History)
    → ComesTo (node_calls nodesize front) old new → ComesTo (node_calls nodesize (front ++ back)) old new
nodes-more nodesize front back old new comes =
    subst (λ (calls : List Call). ComesTo calls old new) (apart nodesize front back)
    (comes-more (node_calls nodesize front) (node_calls nodesize back) old new comes)

-- the next of some nodes was written, or was not
pub comes-node : (nodesize : ℕ) (node : Node) (now later : List Node) (at : ℕ) (bytes : List ℕ)
    (old new : History) (result : Result Unit DiskFault) → now ≡ node ∷ later
    → at ≡ (header_of node).address → bytes ≡ node_text nodesize node → Writes old new result at bytes
    → ComesTo (node_calls nodesize now) old new
comes-node nodesize node now later at bytes old new result cut there text is =
    subst (λ (nodes : List Node). ComesTo (node_calls nodesize nodes) old new) (sym cut)
    (comes-write (header_of node).address (node_text nodesize node) (node_calls nodesize later) old new result
    (subst (λ (place : ℕ). Writes old new result place (node_text nodesize node)) there
    (subst (Writes old new result at) text is)))

pub comes-past_node : (nodesize : ℕ) (node : Node) (now later : List Node) (at : ℕ) (bytes : List ℕ)
    (old mid new : History) → now ≡ node ∷ later → at ≡ (header_of node).address
    → bytes ≡ node_text nodesize node → mid ≡ with_event (Wrote at bytes) old
    → ComesTo (node_calls nodesize later) mid new → ComesTo (node_calls nodesize now) old new
comes-past_node nodesize node now later at bytes old mid new cut there text made comes =
    subst (λ (nodes : List Node). ComesTo (node_calls nodesize nodes) old new) (sym cut)
    (comes-written (header_of node).address (node_text nodesize node) (node_calls nodesize later) old mid new
    (made ∙ ap (λ (n : ℕ). with_event (Wrote n bytes) old) there
    ∙ ap (λ (list : List ℕ). with_event (Wrote (header_of node).address list) old) text) comes)

-- nodes that were written over a buffer of another length that is the same
pub same-nodes : (nodesize size : ℕ) (given nodes : List Node) (old new : History) → nodesize ≡ size
    → given ≡ nodes → ComesTo (node_calls nodesize given) old new → ComesTo (node_calls size nodes) old new
same-nodes nodesize size given nodes old new same are comes =
    subst (λ (list : List Node). ComesTo (node_calls size list) old new) are
    (subst (λ (n : ℕ). ComesTo (node_calls n given) old new) same comes)

-- ---- a commit but for its last sync

-- its first calls are those of a commit
pub unsure-whole : (super : Super) (nodes : List Node) (events : List Event) (history : History)
    → MadeFront (unsure_calls super nodes) events history → MadeFront (commit_calls super nodes) events history
unsure-whole super nodes events history made = record {
  after = made.after;
  told = made.told;
  front = subst (λ (calls : List Call). IsFrontOfCalls calls events made.after)
      (append_assoc (node_calls super.nodesize nodes) (unsure_superblock_calls super) (Sync ∷ []))
      (front-more (unsure_calls super nodes) (Sync ∷ []) events made.after made.front);
}
