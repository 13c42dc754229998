-- How often a step asks the disk. A count of calls stops at the greatest u64.
use Rattle.std.specs.Prelude.{◌≡◌, ◌≢◌, ◌<◌, ◌≤◌, ◌+◌, ◌*◌, ◌⊎◌, ◌&&◌, ◌||◌, ℕ, min, nat_le, nat_lt, List, [], ◌∷◌, length, Bool, true, false, not, codes, cond, Option, None, Some, Ok}
use Rattle.std.specs.List.{count_by, list_any}
use Rattle.std.specs.Option.{is_some, option_map}
use Rattle.std.specs.Str.{bytes_eq}
use Rattle.dav_io.specs.Counts.{RefusedNothing, greatest, one_more}
use Rattle.dav_io.specs.declared.fields.Field.{Field}
use Rattle.dav_core.specs.declared.tree.Row.{Row}
use Rattle.dav_core.specs.DavPath.{WebPath, last_name}
use Rattle.dav_core.specs.Listing.{or_empty}
use Rattle.dav_core.specs.Path.{Names, is_front, parent_of}
use Rattle.dav_core.specs.Tree.{is_link, is_linked, look}
use Rattle.dav_core.specs.World.{World}
use Rattle.dav_model.specs.declared.answer.Answer.{Answer}
use Rattle.dav_model.specs.declared.answer.Answer.TheVariants.{Piece}
use Rattle.dav_model.specs.declared.target.Target.{Target}
use Rattle.dav_model.specs.declared.target.Target.TheVariants.{At, Methods, Refused, Writes}
use Rattle.dav_model.specs.Bodies.{Part, text, slice}
use Rattle.dav_model.specs.Conditions.{Fields}
use Rattle.dav_model.specs.Due.{OfItsPaths, Query, query}
use Rattle.dav_model.specs.Finding.{is_localized, is_virtual, or_walk}
use Rattle.dav_model.specs.Folds.{fold_path, is_dot}
use Rattle.dav_model.specs.Head.{is_set, is_well_known}
use Rattle.dav_model.specs.Rules.{Knowledge, Rules}
use Rattle.dav_model.specs.Trail.{Point}

-- ---- polls

-- whether a piece is given
abbrev pub is_piece : Answer → Bool
is_piece (Piece piece) = true
is_piece answer = false

-- A read was asked behind the move, or the move alone where that failed.
abbrev pub MovesAndReads : Bool → ℕ → ℕ → Type 0
MovesAndReads true before after = after ≡ one_more (one_more before)
MovesAndReads false before after = (after ≡ one_more before) ⊎ (after ≡ one_more (one_more before))

-- How many calls the next bytes of a slice ask: one where the file stands at the slice, and two where it has to be
-- moved there. Where no bytes came, the second may not have been asked.
pub record AsksToRead (place start : ℕ) (came : Bool) (before after : ℕ) : Type 0 where
  pub here : place ≡ start → after ≡ one_more before
  pub there : place ≢ start → MovesAndReads came before after

-- the place of the open file that a body holds
abbrev pub place_held : World → Option ℕ → Option ℕ
place_held w None = None
place_held w (Some h) = option_map (λ o. o.place) (w.opens h)

-- A poll of a slice asks one call or two; over a told world as many as the place of the body's file calls for.
pub record AsksSlice (told : Option World) (held : Option ℕ) (start : ℕ) (came : Bool) (before after : ℕ) : Type 0 where
  -- over any disk
  pub few : (after ≡ one_more before) ⊎ (after ≡ one_more (one_more before))
  -- the file stands at a place of the told world
  pub by_place : (w : World) → told ≡ Some w → (place : ℕ) × (place_held w held ≡ Some place)
      × AsksToRead place start came before after

-- A poll asks nothing where a text is given or nothing is left. (The end of a body's file isn't counted.)
abbrev pub AsksToPoll : Option World → Option ℕ → List Part → Answer → ℕ → ℕ → Type 0
AsksToPoll told held [] answer before after = after ≡ before
AsksToPoll told held (text bytes ∷ parts) answer before after = after ≡ before
AsksToPoll told held (slice number start count ∷ parts) answer before after = AsksSlice told held start
    (is_piece answer) before after

-- ---- requests

-- so many more calls
abbrev pub more_by : ℕ → ℕ → ℕ
more_by calls before = min (before + calls) greatest

-- at most so many more calls
abbrev pub AsksAtMost : ℕ → ℕ → ℕ → Type 0
AsksAtMost most before after = (after ≡ before) ⊎ ((calls : ℕ) × (calls ≤ most) × (after ≡ more_by calls before))

-- The calls of a GET or HEAD that gives no page of a directory, by the status of its answer, where a look at a path is
-- one call, and an opening so many: a look, and then at most an opening, the metadata of what was opened, its address
-- where clients may be sent there, and a move to the first part.
pub record AsksToGet (opening : ℕ) (redirects : Bool) (status before after : ℕ) : Type 0 where
  pub calls : ℕ
  pub are : after ≡ more_by calls before
  pub some : 0 < calls
  pub most : calls ≤ opening + cond redirects 4 3
  -- a whole file is sent, which isn't moved
  pub whole : redirects ≡ false → status ≡ 200 → calls ≡ opening + 2
  -- one part or several
  pub partial : redirects ≡ false → status ≡ 206 → calls ≡ opening + 3
  -- the client is sent to the path of a directory with a final slash
  pub directed : redirects ≡ false → status ≡ 302 → calls ≡ 1

-- whether the fields are those of a directory's page: its type stands first, and no other answer's does
abbrev pub is_of_page : List Field → Bool
is_of_page [] = false
is_of_page (field ∷ fields) = bytes_eq field.name (codes "content-type")

-- The page of a directory asks as often as its members call for, of which nothing more is said.
abbrev pub AsksUnlessPage : ℕ → Bool → Bool → ℕ → ℕ → ℕ → Type 0
AsksUnlessPage opening true redirects status before after = before ≤ after
AsksUnlessPage opening false redirects status before after = AsksToGet opening redirects status before after

-- The page of a well-known server is given without a call.
abbrev pub AsksUnlessKnown : ℕ → Bool → Bool → ℕ → List Field → ℕ → ℕ → Type 0
AsksUnlessKnown opening true redirects status fields before after = after ≡ before
AsksUnlessKnown opening false redirects status fields before after = AsksUnlessPage opening
    (is_of_page fields) redirects status before after

-- ---- where a path is found, and by how many calls

-- Whether the disk isn't asked where a path is found: one file is served alone, or names don't fold.
abbrev pub is_meant : Rules → Bool
is_meant rules = is_some rules.alone || not rules.folds

-- Whether the rules for macOS judge a place: its last name is `.localized`, or begins with `._`, so that the memory may
-- ask of its directory.
abbrev pub is_judged : Rules → Names → Bool
is_judged rules at = rules.macos && (is_dot (or_empty (last_name at)) || is_localized at)

-- Whether these rules touch a path that is meant as it is written: it is one of the two files, or its place is judged.
abbrev pub is_touched : Rules → WebPath → Bool
is_touched rules path = is_virtual rules path || is_judged rules (or_walk rules.alone path.names)

-- The memory has the path at this place, and a row stands there, with no link on the way.
pub record IsHeld (k : Knowledge) (w : World) (names at : Names) : Type 0 where
  pub places : Names → Option Names
  pub tells : k.places ≡ Some places
  pub has : places names ≡ Some at
  pub row : Row
  pub stands : look w.tree at ≡ Ok row
  pub clear : is_linked w.tree at ≡ false

-- The memory hasn't the path, and a row stands at it as it is asked, with no link on the way.
pub record IsHere (k : Knowledge) (w : World) (names : Names) : Type 0 where
  pub places : Names → Option Names
  pub tells : k.places ≡ Some places
  pub hasnt : places names ≡ None
  pub row : Row
  pub stands : look w.tree names ≡ Ok row
  pub clear : is_linked w.tree names ≡ false

-- By whether the memory has the path: it has it, or it stands as it is asked.
abbrev pub IsNear : Bool → Knowledge → World → Names → Names → Type 0
IsNear true k w names at = IsHeld k w names at
IsNear false k w names at = IsHere k w names × (at ≡ names)

-- A look at such a path is one call, that which finds it, unless these rules judge its place.
pub record IsSeenAtOnce (held : Bool) (rules : Rules) (k : Knowledge) (w : World) (path : WebPath) : Type 0 where
  pub at : Names
  pub near : IsNear held k w path.names at
  pub fair : is_judged rules at ≡ false
  pub plain : is_virtual rules path ≡ false

-- An opening of such a path is one call where the memory has it, and else the path is looked at before.
abbrev pub calls_to_open : Bool → ℕ
calls_to_open held = cond held 1 2

-- The path that is asked for, and that of the index file where one may stand for it, are near.
pub record AreNear (held : Bool) (rules : Rules) (k : Knowledge) (w : World) (q : Query) : Type 0 where
  pub seen : IsSeenAtOnce held rules k w q.path
  pub opened : OfItsPaths q (λ path. (at : Names) × IsNear held k w path.names at)

-- ---- where names fold: the most calls by which a path is found

-- The row stands in a directory on the way to the path, names folded, and no deeper than the path.
abbrev pub is_on_way : Names → Row → Bool
is_on_way names row = nat_lt 0 (length row.path) && (nat_le (length row.path) (length names)
    && is_front (fold_path (parent_of row.path)) (fold_path names))

-- A link stands on the way to the path, or at it, names folded.
abbrev pub is_link_on_way : List Row → Names → Bool
is_link_on_way tree names = list_any (λ row. is_link row.kind && is_front (fold_path row.path) (fold_path names)) tree

-- A walk from the root looks at each name of the path. Where it doesn't stand as it is asked, the directory is listed:
-- its beginning, a call for each name in it, and its end.
abbrev pub calls_from_root : World → Names → ℕ
calls_from_root w names = 3 * length names + count_by (is_on_way names) w.tree

-- No link is met on the way to the path, and a walk to it from the root costs so many calls at most.
pub record IsWalkedBy (most : ℕ) (w : World) (path : WebPath) : Type 0 where
  pub clear : is_link_on_way w.tree path.names ≡ false
  pub few : calls_from_root w path.names ≤ most

-- A look at such a path, its opening, or a refused listing: six calls more. The memory is asked for it, it is looked at
-- as it is asked, and the directory above it likewise; and two follow at the place found.
abbrev pub calls_to_seek : ℕ → ℕ
calls_to_seek most = most + 6

-- A look, an opening or a refused listing, each by so many calls, and then the metadata of what was opened, its address
-- where clients may be sent there, and a move to the first part.
abbrev pub calls_to_send : ℕ → Bool → ℕ
calls_to_send each redirects = 2 * each + cond redirects 3 2

-- at most so many calls, unless the page of a directory is given
abbrev pub AtMostUnlessPage : ℕ → Bool → ℕ → ℕ → Type 0
AtMostUnlessPage most true before after = before ≤ after
AtMostUnlessPage most false before after = AsksAtMost most before after

-- The page of a well-known server is given without a call.
abbrev pub AtMostUnlessKnown : ℕ → Bool → List Field → ℕ → ℕ → Type 0
AtMostUnlessKnown most true fields before after = after ≡ before
AtMostUnlessKnown most false fields before after = AtMostUnlessPage most (is_of_page fields) before after

-- How often a GET or HEAD asks between two points. Where names don't fold, a path that these rules touch has a bound, and
-- any other a number. Where they fold, a path has a bound where it has no number, unless a link is met.
pub record AsksToFind (rules : Rules) (k : Knowledge) (q : Query) (status : ℕ) (fields : List Field) (s t : Point)
    : Type 0 where
  pub meant : is_meant rules ≡ true → is_touched rules q.path ≡ false
      → AsksUnlessKnown 1 (is_well_known q.settings q.method q.path) (is_set q.settings.redirect) status fields s.asked
      t.asked
  -- Where names don't fold, a look, an opening and a refused listing are two calls at most each: with the rules for macOS
  -- the directory's time may be asked before the place. It is so whatever the memory has, and whatever was refused.
  pub unsought : is_meant rules ≡ true
      → AtMostUnlessKnown (calls_to_send 2 (is_set q.settings.redirect))
      (is_well_known q.settings q.method q.path) fields s.asked t.asked
  -- where names fold and no fault was met
  pub near : is_meant rules ≡ false → RefusedNothing s.faults t.faults → (w : World) (held : Bool) → s.told ≡ Some w
      → AreNear held rules k w q
      → AsksUnlessKnown (calls_to_open held) (is_well_known q.settings q.method q.path) (is_set q.settings.redirect)
      status fields s.asked t.asked
  -- where names fold, whatever the memory has and whatever was refused
  pub sought : is_meant rules ≡ false → (w : World) (most : ℕ) → s.told ≡ Some w → OfItsPaths q (IsWalkedBy most w)
      → AtMostUnlessKnown (calls_to_send (calls_to_seek most) (is_set q.settings.redirect))
      (is_well_known q.settings q.method q.path) fields s.asked t.asked

-- A request that a gate refuses, and OPTIONS, ask nothing. How often a request that writes asks isn't said.
abbrev pub AsksToReply : Target → Rules → Knowledge → Fields → ℕ → List Field → Point → Point → Type 0
AsksToReply (Refused gate close) rules k asked status fields s t = t.asked ≡ s.asked
AsksToReply Methods rules k asked status fields s t = t.asked ≡ s.asked
AsksToReply (Writes method path) rules k asked status fields s t = s.asked ≤ t.asked
AsksToReply (At method path) rules k asked status fields s t = AsksToFind rules k (query rules.settings asked method
    path) status fields s t

-- ---- want of memory

-- A request that was refused memory: a gate asks nothing, nor does OPTIONS. Of a request that asked the store nothing
-- more is said.
abbrev pub AsksAtGate : Target → ℕ → ℕ → Type 0
AsksAtGate (Refused gate close) before after = after ≡ before
AsksAtGate Methods before after = after ≡ before
AsksAtGate (Writes method path) before after = Unit {0}
AsksAtGate (At method path) before after = Unit {0}
