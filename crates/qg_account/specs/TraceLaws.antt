-- What a trace tells of the owners that have changed since the last commit (this project's own). Addresses and bytes
-- are in bytes.
use Rattle.std.specs.Prelude.{◌≡◌, ◌≢◌, ℕ, false, List, [], map, Some}
use Rattle.std.specs.List.{Contains}
use Rattle.qg_image.specs.declared.element.Element.{Element}
use Rattle.qg_image.specs.Members.{Hierarchy}
use Rattle.qg_image.specs.Reach.{owners, reach, reaches}
use Rattle.qg_image.specs.State.{Layout}
use Rattle.qg_image.specs.Table.{has_key, keys_of, value_at}
use Rattle.qg_reach.specs.Sets.{HaveSame}
use Rattle.qg_trace.specs.declared.trace.TraceEntry.{TraceEntry}
use Rattle.qg_trace.specs.Touched.{IsTrace, touched}
use Rattle.qg_account.specs.Laws.{AreChanges, HaveOneSize, reached_in_both}
use Rattle.qg_account.specs.Moves.{OwnerChange}
use Rattle.qg_account.specs.Updating.{counted, with_changes}

-- a trace notes of each of its addresses who owned it at the last commit, and each address whose owners have changed
-- since is in it
pub record IsTraceOf (old now : Layout) (trace : List (ℕ × TraceEntry)) : Type 0 where
  pub before : (address : ℕ) (entry : TraceEntry) → value_at address trace ≡ Some entry
      → entry.owners ≡ owners old address
  pub rest : (address : ℕ) → has_key address trace ≡ false → owners old address ≡ owners now address

-- the changes that it tells, with the owners now; the bytes are those that begin at an address now, or that began
-- there, which may be others than those noted where nobody owned the address at the last commit
abbrev pub changes_of : Layout → (ℕ → ℕ) → List (ℕ × TraceEntry) → List (ℕ × OwnerChange)
changes_of now bytes trace = map (λ entry. (
  entry.0,
  record { bytes = bytes entry.0; before = entry.1.owners; now = owners now entry.0 },
)) trace

-- these are the bytes of what begins at the addresses of a trace, then or now
abbrev pub AreBytesOf : Layout → Layout → (ℕ → ℕ) → List (ℕ × TraceEntry) → Type 0
AreBytesOf old now bytes trace =
    (entry : ℕ × TraceEntry) (element : Element) → Contains trace entry → Contains (reached_in_both old now) element
    → element.address ≡ entry.0 → element.bytes ≡ bytes entry.0

-- ---- laws

-- after a commit nothing needs to be noted
abbrev pub TraceBegins : Type 0
TraceBegins = (old : Layout) → IsTraceOf old old []

-- a touch with the owners as they are keeps a trace one
abbrev pub TouchKeepsTrace : Type 0
TouchKeepsTrace = (old now : Layout) (trace : List (ℕ × TraceEntry)) (at : ℕ) (entry : TraceEntry)
    → IsTraceOf old now trace → entry.owners ≡ owners now at → IsTraceOf old now (touched at entry trace)

-- and so does an edit that changes the owners of touched addresses alone
abbrev pub EditKeepsTrace : Type 0
EditKeepsTrace = (old now next : Layout) (trace : List (ℕ × TraceEntry)) → IsTraceOf old now trace
    → ((address : ℕ) → has_key address trace ≡ false → owners now address ≡ owners next address)
    → IsTraceOf old next trace

-- its changes tell what differs between the last commit and now
abbrev pub TraceTellsChanges : Type 0
TraceTellsChanges = (old now : Layout) (trace : List (ℕ × TraceEntry)) (bytes : ℕ → ℕ) → IsTrace trace
    → IsTraceOf old now trace → HaveOneSize (reached_in_both old now) → AreBytesOf old now bytes trace
    → AreChanges old now (changes_of now bytes trace)

-- so the direct counts of the last commit, moved along the changes of a trace, are the direct counts now
abbrev pub TraceCounts : Type 0
TraceCounts = (old now : Layout) (hierarchy : Hierarchy) (trace : List (ℕ × TraceEntry)) (bytes : ℕ → ℕ) → IsTrace trace
    → IsTraceOf old now trace → HaveOneSize (reached_in_both old now) → AreBytesOf old now bytes trace
    → with_changes hierarchy (changes_of now bytes trace) (counted old hierarchy) ≡ counted now hierarchy

-- ---- a file command

-- one subvolume is edited, and every other reaches what it reached
pub record IsEdit (now next : Layout) (sub : ℕ) : Type 0 where
  pub numbers : keys_of next.roots ≡ keys_of now.roots
  pub others : (other : ℕ) → Contains (keys_of now.roots) other → other ≢ sub
      → HaveSame (reach next other) (reach now other)

-- it changes the owners of what that subvolume gains or loses, and of nothing else
abbrev pub EditsChangeGainsAndLosses : Type 0
EditsChangeGainsAndLosses = (now next : Layout) (sub address : ℕ) → IsEdit now next sub
    → reaches now sub address ≡ reaches next sub address → owners now address ≡ owners next address
