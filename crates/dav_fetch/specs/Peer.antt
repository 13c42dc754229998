-- What a server is from outside: its replies by a world, and their bodies piece by piece.
use Rattle.std.specs.Prelude.{◌≡◌, ◌≤◌, ◌+◌, ℕ, List, [], ◌++◌, take, drop, replicate, length, map, Bool, true, false, Option, None, Some, Result, Ok, Err, OnOk}
use Rattle.std.specs.List.{filter, flat_map}
use Rattle.std.specs.Option.{ForSome}
use Rattle.std.specs.Str.{bytes_eq}
use Rattle.dav_io.specs.Counts.{Rose}
use Rattle.dav_io.specs.Told.{Both}
use Rattle.dav_io.specs.declared.fields.Field.{Field}
use Rattle.dav_core.specs.declared.method.DavMethod.TheVariants.{Get}
use Rattle.dav_core.specs.Changes.{turned}
use Rattle.dav_core.specs.DavPath.{IsPath, WebPath}
use Rattle.dav_core.specs.declared.tree.Row.{Row}
use Rattle.dav_core.specs.Tree.{is_linked}
use Rattle.dav_core.specs.World.{World, SameBesidesOpens, bytes_of}
use Rattle.dav_model.specs.declared.settings.Settings.{Settings}
use Rattle.dav_model.specs.Bodies.{Part, text, slice}
use Rattle.dav_model.specs.Conditions.{Fields, values_of}
use Rattle.dav_model.specs.Due.{IsRight, query}
use Rattle.dav_model.specs.Finding.{is_clear, shown_in}
use Rattle.dav_model.specs.Head.{Reply}
use Rattle.dav_model.specs.Rules.{Rules, plain_rules}
use Rattle.dav_model.specs.Unset.{nothing_set}
use Rattle.dav_fetch.specs.declared.copied.Kept.{Kept}
use Rattle.dav_fetch.specs.declared.peer.Got.{Got}
use Rattle.dav_fetch.specs.declared.peer.PeerFault.{PeerFault}
use Rattle.dav_fetch.specs.declared.peer.PeerFault.TheVariants.{Failed, NoMemory}
use Rattle.dav_fetch.specs.Asking.{asked_for, awaits}
use Rattle.dav_fetch.specs.Copy.{IsKept}

-- the most bytes of a link
abbrev pub links_most : ℕ
links_most = 65000

-- what is set at a server whose replies can be told: pages are permitted
abbrev pub peer_settings : Settings
peer_settings = record nothing_set { autoindex = Some true }

abbrev pub peer_rules : Rules
peer_rules = plain_rules peer_settings

-- the world at this moment, and what the last reply's body has left of it
pub record Seen : Type 0 where
  pub world : World
  pub left : List ℕ

pub record PeerState : Type 0 where
  pub told : Option Seen
  -- the world that it stands on, where one is known: also behind a reply of which it tells nothing
  pub world : Option World
  -- the path of its last reply, where it names it
  pub path : Option WebPath
  pub faults : ℕ

-- What its calls came to: how many replies it counts; how many failures; and how many turns the outside had, where it asks
-- a disk. Failures and turns stop at the greatest u64.
pub record Calls : Type 0 where
  pub replies : ℕ
  pub failures : ℕ
  pub turns : ℕ

-- the bytes of a part in a world, and zeros where none stand
abbrev pub part_bytes : World → Part → List ℕ
part_bytes w (text bytes) = bytes
part_bytes w (slice number start count) = take count (drop start (bytes_of w number) ++ replicate count 0)

abbrev pub body_in : World → List Part → List ℕ
body_in w parts = flat_map (part_bytes w) parts

-- the values that a list of fields has under a name
abbrev pub said_under : List Field → List ℕ → List (List ℕ)
said_under asked name = map (λ (f : Field). f.value) (filter (λ (f : Field). bytes_eq f.name name) asked)

-- The fields of a request are these.
abbrev pub Carries : List Field → Fields → Type 0
Carries asked fields = (name : List ℕ) → values_of fields name ≡ said_under asked name

-- A reply over a world: the one right answer to a GET there, or what may stand in its place where the count rose.
pub record RepliesOf (w : World) (path : WebPath) (asked : List Field) (rose : Type 0) (got : Got) (left : List ℕ) : Type 0 where
  pub fields : Fields
  pub carries : Carries asked fields
  pub reply : Reply
  pub right : IsRight (query peer_settings fields Get path) (shown_in peer_rules w) rose reply
  pub status : got.status ≡ reply.status
  pub headers : got.headers ≡ reply.fields
  pub body : left ≡ body_in w reply.parts

-- It is of a world, where the peer tells at this reply: that at which it was asked, which is the one after it but for what is open.
abbrev pub RepliesIn : Option World → WebPath → List Field → Type 0 → Got → Option Seen → Type 0
RepliesIn None path asked rose got told = told ≡ None
RepliesIn (Some w) path asked rose got told = (now : Seen) × (told ≡ Some now) × SameBesidesOpens w now.world
    × RepliesOf w path asked rose got now.left

abbrev pub IsGot : WebPath → List Field → PeerState → Result Got PeerFault → PeerState → Type 0
IsGot path asked s (Ok got) t = (world : Option World) × RepliesIn world path asked (Rose s.faults t.faults) got t.told
IsGot path asked s (Err Failed) t = Rose s.faults t.faults
IsGot path asked s (Err NoMemory) t = Unit {0}

-- What a fetch asks: a path under no prefix, with the fields for what is kept of its file.
pub record IsAskable (path : WebPath) (asked : List Field) : Type 0 where
  pub is : IsPath path
  pub prefix : path.prefix ≡ []
  pub old : Option Kept
  pub kept : ForSome old IsKept
  pub fields : asked ≡ asked_for (awaits old)

-- No link is met by a GET of this path: none stands on the way to it or at it, nor in the directory whose page it asks
-- for.
pub record MeetsNone (tree : List Row) (path : WebPath) : Type 0 where
  pub way : is_linked tree path.names ≡ false
  pub members : path.slash ≡ true → is_clear tree path.names ≡ true

-- Where it told a world with no change to come, in which no link is met at this path, it tells the same one.
abbrev pub StaysStill : WebPath → PeerState → PeerState → Type 0
StaysStill path s t = (v : Seen) → s.told ≡ Some v → v.world.script ≡ [] → MeetsNone v.world.tree path
    → (w : Seen) × (t.told ≡ Some w) × SameBesidesOpens v.world w.world

-- The outside made one batch of its changes. Nothing else changed but which files are open.
abbrev pub GoesOn : World → World → Type 0
GoesOn v w = (u : World) × SameBesidesOpens v u × SameBesidesOpens (turned u) w

-- Where it tells a world before and after, the outside made one batch of its changes between.
abbrev pub TurnsOnce : PeerState → PeerState → Type 0
TurnsOnce s t = (v w : Seen) → s.told ≡ Some v → t.told ≡ Some w → GoesOn v.world w.world

-- What it tells is of the world that it stands on.
abbrev pub TellsOwn : PeerState → Type 0
TellsOwn t = (now : Seen) → t.told ≡ Some now → t.world ≡ Some now.world

-- What is named behind a `get`: this path, where it is named at all, and none where the call failed.
abbrev pub Names : WebPath → Result Got PeerFault → Option WebPath → Type 0
Names path (Ok got) named = ForSome named (λ at. at ≡ path)
Names path (Err Failed) named = named ≡ None
Names path (Err NoMemory) named = Unit {0}

pub record Gets (s : PeerState) (path : WebPath) (asked : List Field) (result : Result Got PeerFault) (t : PeerState) : Type 0 where
  pub counts : s.faults ≤ t.faults
  pub is : IsGot path asked s result t
  pub stays : IsAskable path asked → OnOk result (StaysStill path s t)
  pub turns : OnOk result (TurnsOnce s t)
  -- whether it tells or not
  pub owns : OnOk result (TellsOwn t)
  pub goes : IsAskable path asked → OnOk result (Both s.world t.world GoesOn)
  pub names : Names path result t.path

-- The world stays. These bytes of the body came; none come only at its end.
abbrev pub Came : List ℕ → Seen → Seen → Type 0
Came bytes v w = SameBesidesOpens v.world w.world × (v.left ≡ bytes ++ w.left)

abbrev pub Gave : PeerState → List ℕ → Result ℕ PeerFault → PeerState → Type 0
Gave s into (Ok n) t = (n ≤ length into) × Both s.told t.told (λ v w. Came (take n into) v w × (n ≡ 0 → v.left ≡ []))
Gave s into (Err Failed) t = Rose s.faults t.faults × Both s.told t.told (λ v w. SameBesidesOpens v.world w.world)
Gave s into (Err NoMemory) t = Both s.told t.told (Came [])

pub record Gives (s : PeerState) (into : List ℕ) (result : Result ℕ PeerFault) (t : PeerState) : Type 0 where
  pub counts : s.faults ≤ t.faults
  pub is : Gave s into result t
  pub stands : Both s.world t.world SameBesidesOpens
  pub path : t.path ≡ s.path

-- ---- what calls come to

abbrev pub is_failure : {A : Type 0} → Result A PeerFault → Bool
is_failure (Ok a) = false
is_failure (Err Failed) = true
is_failure (Err NoMemory) = false

-- Failures are counted, and nothing else is.
abbrev pub CountsFailure : Bool → Calls → Calls → Type 0
CountsFailure true before after = Rose before.failures after.failures
CountsFailure false before after = after.failures ≡ before.failures

-- A request gets one reply at most, and the outside one turn at most.
pub record CountsGet {A : Type 0} (before : Calls) (result : Result A PeerFault) (after : Calls) : Type 0 where
  pub replies : after.replies ≤ before.replies + 1
  pub turns : after.turns ≤ before.turns + 1
  pub failures : CountsFailure (is_failure result) before after

-- A piece is neither.
pub record CountsPiece {A : Type 0} (before : Calls) (result : Result A PeerFault) (after : Calls) : Type 0 where
  pub replies : after.replies ≤ before.replies
  pub turns : after.turns ≤ before.turns
  pub failures : CountsFailure (is_failure result) before after

-- No more replies and turns are counted than so many. A failure is counted, and nothing else is.
pub record Counts (most : ℕ) (failed : Bool) (before after : Calls) : Type 0 where
  pub replies : after.replies ≤ before.replies + most
  pub turns : after.turns ≤ before.turns + most
  pub failures : CountsFailure failed before after
