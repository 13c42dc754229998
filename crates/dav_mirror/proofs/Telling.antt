-- What a player tells as a peer, before and after its steps.
use Rattle.std.proofs.Common.{◌≡◌, ◌≢◌, inl, inr, ◌≤◌, ◌<◌, ◌+◌, ◌==◌, ◌&&◌, ◌||◌, ◌++◌, ℕ, List, [], ◌∷◌, length, take, drop, min, replicate, Bool, true, false, cond, not, is_some, Option, None, Some, Result, Ok, Err, refl, sym, ap, ap₂, subst, ◌∙◌, arith, append_assoc, eqb-true, true≢false}
use Rattle.std.proofs.lemmas.Bool.{and_from, and_parts, not-true}
use Rattle.std.specs.List.{AllByRecursion}
use Rattle.std.specs.Option.{ForSome}
use Rattle.http.specs.Request.{head_of, body_of}
use Rattle.dav_io.specs.Counts.{Rose, greatest}
use Rattle.dav_io.specs.Told.{Both}
use Rattle.dav_io.proofs.ToldLemmas.{both_map, both_same}
use Rattle.dav_io.specs.declared.clock.Moment.{Moment}
use Rattle.dav_io.specs.declared.failure.NoMemory.{NoMemory}
use Rattle.dav_io.specs.declared.fields.Field.{Field}
use Rattle.dav_core.specs.declared.error.FsError.{FsError}
use Rattle.dav_core.specs.declared.method.DavMethod.TheVariants.{Get}
use Rattle.dav_core.specs.declared.method.DavMethodSet.{DavMethodSet}
use Rattle.dav_core.specs.declared.tree.Kind.{Kind}
use Rattle.dav_core.specs.declared.tree.Kind.TheVariants.{Dir, File, Link}
use Rattle.dav_core.specs.declared.tree.Row.{Row}
use Rattle.dav_core.specs.DavPath.{WebPath}
use Rattle.dav_core.specs.Path.{Names}
use Rattle.dav_core.specs.Tree.{is_linked}
use Rattle.dav_core.specs.World.{World, SameBesidesOpens, bytes_or_none}
use Rattle.dav_core.proofs.UnchangedLemmas.{other_keys, put_same, same_besides}
use Rattle.dav_model.specs.declared.answer.Answer.{Answer}
use Rattle.dav_model.specs.declared.answer.Answer.TheVariants.{Reply as Replied, Piece, End, Broken, Done}
use Rattle.dav_model.specs.declared.settings.Settings.{Settings}
use Rattle.dav_model.specs.declared.step.Step.{Step}
use Rattle.dav_model.specs.declared.step.Step.TheVariants.{Abandon, Poll, Request, Turn}
use Rattle.dav_model.specs.declared.target.Target.TheVariants.{At}
use Rattle.dav_model.specs.Bodies.{Gives as GivesPart, NoneEmpty, Part, Polls, read_size_of, slice, text}
use Rattle.dav_model.specs.Conditions.{Asked, Fields, fields_of}
use Rattle.dav_model.specs.Due.{Due, IsRight, IsHead, IsSpoiled, Query, dir_course, directing, due, due_course, due_kind, due_looked, file as sends, known, listing, page, query, refused, to_slash}
use Rattle.dav_model.specs.Finding.{is_clear, resolved, shown_in}
use Rattle.dav_core.specs.Methods.{method_of}
use Rattle.dav_model.specs.Gates.{admitted, bulk_of, is_partial, or_refused, unless, weighed, with_method, with_path}
use Rattle.dav_model.specs.Head.{Reply, Stood}
use Rattle.dav_model.specs.Shown.{Shown}
use Rattle.dav_model.specs.Play.{Answered, AreFull, Gets, HasOpen, IsOfTree, MeetsNoLink, Plays, Playing, Polled, Refuses, RepliesByTree, Stage, Stepped, TellsOpen}
use Rattle.dav_model.specs.Rules.{Rules, plain_rules}
use Rattle.dav_model.specs.Trail.{Leaves, Move, Point, target_of}
use Rattle.dav_model.specs.Valid.{Valid}
use Rattle.dav_model.specs.Written.{Makes}
use Rattle.dav_model.proofs.Denied.{each_by_tree}
use Rattle.dav_model.proofs.PlainWalks.{plain_resolved}
use Rattle.dav_fetch.specs.declared.peer.Got.{Got}
use Rattle.dav_fetch.specs.declared.peer.PeerFault.{PeerFault}
use Rattle.dav_fetch.specs.declared.peer.PeerFault.TheVariants.{Failed as PeerFailed, NoMemory as LacksMemory}
use Rattle.dav_fetch.specs.Peer.{Came, GoesOn, Gets as GetsPeer, Gives as GivesPeer, IsAskable, IsGot, MeetsNone, PeerState, RepliesIn, Seen, StaysStill, TurnsOnce, body_in, part_bytes, peer_rules, peer_settings}
use Rattle.dav_fetch.proofs.PollBytes.{poll_bytes}
use Rattle.dav_mirror.specs.Asking.{IsAskedFor, IsGet, IsHeard}
use Rattle.dav_mirror.proofs.Coming.{reply_number}
use Rattle.dav_mirror.specs.Seen.{are_peer_rules, heard_by, is_clear_at, is_none, is_on, is_peer_set, left_at, named_in, path_of, peer_in, seen_in, seen_of, tells}
use Rattle.dav_mirror.specs.declared.play_peer.Heard.{Heard}
use Rattle.dav_mirror.specs.declared.play_peer.Heard.TheVariants.{Asked as AskedFor, Unheard}

-- ---- rules of a peer

-- such settings with another size of the read buffer
abbrev sized : Option ℕ → Settings
sized n = record peer_settings { read_buf_size = n }

absent : {A : Type 0} (o : Option A) → not (is_some o) ≡ true → o ≡ None
absent None e = refl
absent (Some a) e = absurd (true≢false (sym e))

none_is : (bs : List ℕ) → is_none bs ≡ true → bs ≡ []
none_is [] e = refl
none_is (b ∷ bs) e = absurd (true≢false (sym e))

on_is : (o : Option Bool) → is_on o ≡ true → o ≡ Some true
on_is None e = absurd (true≢false (sym e))
on_is (Some on) e = ap (λ b. Some b) e

same_settings : (s : Settings) → s.prefix ≡ [] → s.allow ≡ None → s.principal ≡ None → s.hide_symlinks ≡ None → s.autoindex ≡ Some true → s.indexfile ≡ None → s.redirect ≡ None
    → s ≡ sized s.read_buf_size
same_settings s a b c d e f g =
    ap (λ (x : List ℕ). record s { prefix = x }) a
    ∙ ap (λ (x : Option DavMethodSet). record s { prefix = []; allow = x }) b
    ∙ ap (λ (x : Option (List ℕ)). record s { prefix = []; allow = None; principal = x }) c
    ∙ ap (λ (x : Option Bool). record s { prefix = []; allow = None; principal = None; hide_symlinks = x }) d
    ∙ ap (λ (x : Option Bool). record s { prefix = []; allow = None; principal = None; hide_symlinks = None; autoindex = x }) e
    ∙ ap (λ (x : Option (List ℕ)). record s { prefix = []; allow = None; principal = None; hide_symlinks = None; autoindex = Some true; indexfile = x }) f
    ∙ ap (λ (x : Option Bool). record s { prefix = []; allow = None; principal = None; hide_symlinks = None; autoindex = Some true; indexfile = None; redirect = x }) g

set_is : (s : Settings) → is_peer_set s ≡ true → s ≡ sized s.read_buf_size
set_is s e =
    let a = and_parts _ _ e in
    let b = and_parts _ _ a.1 in
    let c = and_parts _ _ b.1 in
    let d = and_parts _ _ c.1 in
    let f = and_parts _ _ d.1 in
    let g = and_parts _ _ f.1 in
    same_settings s (none_is _ a.0) (absent _ b.0) (absent _ c.0) (absent _ d.0) (on_is _ f.0) (absent _ g.0) (absent _ g.1)

same_rules : (r : Rules) (s : Settings) → r.settings ≡ s → r.folds ≡ false → r.macos ≡ false → r.alone ≡ None → r ≡ plain_rules s
same_rules r s a b c d =
    ap (λ (x : Settings). record r { settings = x }) a ∙ ap (λ (x : Bool). record r { settings = s; folds = x }) b
    ∙ ap (λ (x : Bool). record r { settings = s; folds = false; macos = x }) c
    ∙ ap (λ (x : Option Names). record r { settings = s; folds = false; macos = false; alone = x }) d

rules_are : (r : Rules) → are_peer_rules r ≡ true → r ≡ plain_rules (sized r.settings.read_buf_size)
rules_are r e =
    let a = and_parts _ _ e in
    let b = and_parts _ _ a.1 in
    let c = and_parts _ _ b.1 in
    same_rules r (sized r.settings.read_buf_size) (set_is r.settings a.0) (not-true _ b.0) (not-true _ c.0) (absent _ c.1)

-- No answer asks for the size of the read buffer.
module _ (n : Option ℕ) (fields : Fields) (path : WebPath) (w : World) where
  abbrev asked_by : Settings → Query
  asked_by settings = query settings fields Get path

  abbrev shown_by_peer : Shown
  shown_by_peer = shown_in peer_rules w

  abbrev shown_by_sized : Shown
  shown_by_sized = shown_in (plain_rules (sized n)) w

  due_by_kind : (kind : Kind) (slash : Bool) → path.slash ≡ slash → due_kind shown_by_sized (asked_by (sized n)) kind ≡ due_kind shown_by_peer (asked_by peer_settings) kind
  due_by_kind Dir true e =
      ap (λ b. due_course shown_by_sized path (dir_course (asked_by (sized n)) b)) e ∙ sym (ap (λ b. due_course shown_by_peer path (dir_course (asked_by peer_settings) b)) e)
  due_by_kind Dir false e =
      ap (λ b. due_course shown_by_sized path (dir_course (asked_by (sized n)) b)) e ∙ sym (ap (λ b. due_course shown_by_peer path (dir_course (asked_by peer_settings) b)) e)
  due_by_kind File slash e = refl
  due_by_kind Link slash e = refl

  due_by_look : (found : Result Stood FsError) → due_looked shown_by_sized (asked_by (sized n)) found ≡ due_looked shown_by_peer (asked_by peer_settings) found
  due_by_look (Err e) = refl
  due_by_look (Ok stood) = due_by_kind stood.kind path.slash refl

  due_same : due shown_by_sized (asked_by (sized n)) ≡ due shown_by_peer (asked_by peer_settings)
  due_same = due_by_look (shown_by_peer.looked path)

  head_same : (d : Due) (reply : Reply) → IsHead (asked_by (sized n)) d reply → IsHead (asked_by peer_settings) d reply
  head_same known reply h = h
  head_same (refused status close) reply h = h
  head_same (to_slash at) reply h = h
  head_same (sends at stood) reply h = h
  head_same (page dir members) reply h = h

  spoiled_same : (d : Due) (reply : Reply) → IsSpoiled (asked_by (sized n)) d reply → IsSpoiled (asked_by peer_settings) d reply
  spoiled_same known reply h = h
  spoiled_same (refused status close) reply h = h
  spoiled_same (to_slash at) reply h = h
  spoiled_same (sends at stood) reply (inl h) = inl h
  spoiled_same (sends at stood) reply (inr u) = inr (record { here = u.here; partial = u.partial; sent = u.sent })
  spoiled_same (page dir members) reply h = h

  right_sized : (rose : Type 0) (reply : Reply) → IsRight (asked_by (sized n)) shown_by_sized rose reply → IsRight (asked_by peer_settings) shown_by_peer rose reply
  right_sized rose reply (inl h) = inl (subst (λ d. IsHead (asked_by peer_settings) d reply) due_same (head_same (due shown_by_sized (asked_by (sized n))) reply h))
  right_sized rose reply (inr (h, r)) = inr (subst (λ d. IsSpoiled (asked_by peer_settings) d reply) due_same (spoiled_same (due shown_by_sized (asked_by (sized n))) reply h), r)

-- ---- no link is met

pub clear_meets : (path : WebPath) (tree : List Row) → is_clear_at path tree ≡ true → MeetsNone tree path
clear_meets path tree e =
    let p = and_parts (not (is_linked tree path.names)) (not path.slash || is_clear tree path.names) e in
    record { way = not-true _ p.0; members = λ slash. subst (λ b. (not b || is_clear tree path.names) ≡ true) slash p.1 }

pub meets_clear : (path : WebPath) (tree : List Row) → MeetsNone tree path → is_clear_at path tree ≡ true
meets_clear path tree none = and_from _ _ (ap not none.way) (by path.slash refl)
  where
    by : (b : Bool) → path.slash ≡ b → (not path.slash || is_clear tree path.names) ≡ true
    by true e = ap (λ b. not b || is_clear tree path.names) e ∙ none.members e
    by false e = ap (λ b. not b || is_clear tree path.names) e

-- ---- the reply

-- the step alone is a valid run
valid_one : (n : Option ℕ) (p : Playing) (s t : Point) (v w : World) → p.rules ≡ plain_rules (sized n) → s.told ≡ Some v → t.told ≡ Some w → Valid p.rules p.knows (s ∷ t ∷ [])
valid_one n p s t v w r before after =
    let folds : p.rules.folds ≡ false = ap (λ (x : Rules). x.folds) r in
    let macos : p.rules.macos ≡ false = ap (λ (x : Rules). x.macos) r in
    record {
      told = (ap is_some before, (ap is_some after, tt));
      apart = λ e u o. absurd (true≢false (sym e ∙ folds));
      times = λ e. absurd (true≢false (sym e ∙ macos));
      links = λ e. absurd (true≢false (sym e ∙ macos));
      sound = λ e. absurd (true≢false (sym e ∙ macos));
    }

meets_none : (n : Option ℕ) (w : World) (fields : Fields) (path : WebPath) → MeetsNone w.tree path → MeetsNoLink (plain_rules (sized n)) w (query (sized n) fields Get path)
meets_none n w fields path none = record {
  paths = record { path = ap (is_linked w.tree) found ∙ none.way; index = λ slash name set. absurd (none_set name set) };
  members = λ lists. ap (is_clear w.tree) found ∙ none.members (by path.slash refl lists);
}
  where
    found : resolved (plain_rules (sized n)) w.tree path.names ≡ path.names
    found = plain_resolved (sized n) w.tree path.names

    none_set : (name : List ℕ) → (◌≡◌ {A = Option (List ℕ)} None (Some name)) → ⊥
    none_set name e = cc

    by : (b : Bool) → path.slash ≡ b → dir_course (query (sized n) fields Get path) path.slash ≡ listing → path.slash ≡ true
    by true e lists = e
    by false e lists = let other : directing ≡ listing = sym (ap (dir_course (query (sized n) fields Get path)) e) ∙ lists in cc

target_is : (n : Option ℕ) (path : WebPath) (asked : List Field) (request : Asked) → IsGet asked request → IsHeard path request → target_of (plain_rules (sized n)) request ≡ At Get path
target_is n path asked request get heard =
    ap (λ b. weighed (fields_of request) (bulk_of b) (admitted (sized n) true (head_of request))) get.body
    ∙ ap (λ word. weighed (fields_of request) (bulk_of []) (with_method (sized n) true (head_of request) (method_of word))) get.method
    ∙ ap (λ r. weighed (fields_of request) (bulk_of []) (with_path Get r)) heard.back
    ∙ ap (λ x. or_refused None (unless (not (x || is_partial (fields_of request) Get)) 501 true) (At Get path)) heard.plain

pub target_by : (r : Rules) (path : WebPath) (asked : List Field) (request : Asked) → are_peer_rules r ≡ true → IsGet asked request → IsHeard path request → target_of r request ≡ At Get path
target_by r path asked request e get heard = ap (λ z. target_of z request) (rules_are r e) ∙ target_is r.settings.read_buf_size path asked request get heard

pub leaves_by : (p q : Playing) (s t : Point) (request : Asked) (answer : Answer) (path : WebPath) → target_of p.rules request ≡ At Get path → Answered p s t request answer q → Leaves s t
leaves_by p q s t request answer path target x = subst (λ z. Makes z p.rules p.knows (fields_of request) (body_of request) (Ok x.reply) s t) target x.makes

right_by : (p q : Playing) (s t : Point) (request : Asked) (now : Moment) (answer : Answer) (path : WebPath) (v w : World) → are_peer_rules p.rules ≡ true → target_of p.rules request ≡ At Get path
    → s.told ≡ Some v → t.told ≡ Some w → MeetsNone v.tree path → (x : Answered p s t request answer q) → TellsOpen t q
    → IsRight (query peer_settings (fields_of request) Get path) (shown_in peer_rules v) (Rose s.faults t.faults) x.reply
right_by p q s t request now answer path v w e target before after none x holds =
    let n = p.rules.settings.read_buf_size in
    let r : p.rules ≡ plain_rules (sized n) = rules_are p.rules e in
    let move : Move = record { step = Request request now; answer = answer; to = t } in
    let plays : Plays p s (move ∷ []) q = (q, x, holds, refl) in
    let by : RepliesByTree (target_of p.rules request) p.rules s t (fields_of request) (body_of request) x.reply =
    (each_by_tree p s (move ∷ []) q plays (valid_one n p s t v w r before after)).0 in
    let tree : IsOfTree p.rules s t (query p.rules.settings (fields_of request) Get path) x.reply =
    subst (λ z. RepliesByTree z p.rules s t (fields_of request) (body_of request) x.reply) target by in
    let at : IsOfTree (plain_rules (sized n)) s t (query (sized n) (fields_of request) Get path) x.reply =
    subst (λ (z : Rules). IsOfTree z s t (query z.settings (fields_of request) Get path) x.reply) r tree in
    right_sized n (fields_of request) path v (Rose s.faults t.faults) x.reply (at v before (meets_none n v (fields_of request) path none))

-- what rose, rose from less too
rose_more : (before s t own : ℕ) → before ≤ s + own → Rose s t → Rose before (t + own)
rose_more before s t own less (inl more) = inl (omega (arith, less, more))
rose_more before s t own less (inr most) = inr (omega (arith, most))

right_more : (fields : Fields) (path : WebPath) (w : World) (reply : Reply) (before s t own : ℕ) → before ≤ s + own
    → IsRight (query peer_settings fields Get path) (shown_in peer_rules w) (Rose s t) reply → IsRight (query peer_settings fields Get path) (shown_in peer_rules w) (Rose before (t + own)) reply
right_more fields path w reply before s t own less (inl head) = inl head
right_more fields path w reply before s t own less (inr (spoiled, rose)) = inr (spoiled, rose_more before s t own less rose)

-- ---- bytes

same_part : (v w : World) (file : Option ℕ) (part : Part) → SameBesidesOpens v w → HasOpen w file part → part_bytes v part ≡ part_bytes w part
same_part v w file (text bytes) same holds = refl
same_part v w file (slice number start count) same (h, held, is) =
    ap (λ o. take count (drop start (bytes_or_none o) ++ replicate count 0)) (sym (same.files number (inr (h, is))).1)

-- what an open file has stays, whatever else is open
same_body : (v w : World) (file : Option ℕ) (parts : List Part) → SameBesidesOpens v w → AllByRecursion (HasOpen w file) parts → body_in v parts ≡ body_in w parts
same_body v w file [] same holds = refl
same_body v w file (part ∷ parts) same holds = ap₂ ◌++◌ (same_part v w file part same holds.0) (same_body v w file parts same holds.1)

left_is : (p q : Playing) (body : ℕ) (parts : List Part) → Gets body parts p q → q.left body ≡ parts
left_is p q body parts g = ap (λ (z : Playing). z.left body) g.is ∙ put_same body parts p.left

open_left : (p q : Playing) (t : Point) (body : ℕ) (parts : List Part) (w : World) → Gets body parts p q → TellsOpen t q → t.told ≡ Some w → AllByRecursion (HasOpen w (q.held body)) parts
open_left p q t body parts w g holds told = subst (AllByRecursion (HasOpen w (q.held body))) (left_is p q body parts g) (holds.files w told body)

-- ---- what is told

seen_none : (on : List Row → Bool) (kept : List ℕ) (parts : List Part) (told : Option World) → ((tree : List Row) → on tree ≡ false) → seen_in on kept parts told ≡ None
seen_none on kept parts None off = refl
seen_none on kept parts (Some w) off = ap (λ x. cond x (Some (record { world = w; left = kept ++ body_in w parts })) None) (off w.tree)

-- nothing is told of a world in whose tree a link was met
seen_linked : (on : List Row → Bool) (kept : List ℕ) (parts : List Part) (w : World) → on w.tree ≡ false → seen_in on kept parts (Some w) ≡ None
seen_linked on kept parts w e = ap (λ x. cond x (Some (record { world = w; left = kept ++ body_in w parts })) None) e

pub seen_some : (on : List Row → Bool) (kept : List ℕ) (parts : List Part) (w : World) → on w.tree ≡ true → seen_in on kept parts (Some w) ≡ Some (record { world = w; left = kept ++ body_in w parts })
seen_some on kept parts w e = ap (λ x. cond x (Some (record { world = w; left = kept ++ body_in w parts })) None) e

-- what holds of what is told before and after, where the world stays
pub both_seen : (on : List Row → Bool) (kept more : List ℕ) (parts rest : List Part) (old new : Option World) (P : Seen → Seen → Type 0) → Both old new SameBesidesOpens
    → ((v w : World) → old ≡ Some v → new ≡ Some w → SameBesidesOpens v w → P (record { world = v; left = kept ++ body_in v parts }) (record { world = w; left = more ++ body_in w rest }))
    → Both (seen_in on kept parts old) (seen_in on more rest new) P
both_seen on kept more parts rest None None P same h = tt
both_seen on kept more parts rest None (Some w) P same h = absurd same
both_seen on kept more parts rest (Some v) None P same h = absurd same
both_seen on kept more parts rest (Some v) (Some w) P same h =
    subst (λ tree. Both (cond (on v.tree) (Some (record { world = v; left = kept ++ body_in v parts })) None) (cond (on tree) (Some (record { world = w; left = more ++ body_in w rest })) None) P) (sym same.tree) (by (on v.tree))
  where
    by : (b : Bool) → Both (cond b (Some (record { world = v; left = kept ++ body_in v parts })) None) (cond b (Some (record { world = w; left = more ++ body_in w rest })) None) P
    by true = h v w refl refl same
    by false = tt

abbrev at_stage : Point → Playing → Stage
at_stage s p = record { at = s; playing = p }

-- the same of what is told of a body, by a step that leaves the world and this of the body
step_seen : (heard : Heard) (kept more : List ℕ) (body : ℕ) (p q : Playing) (s t : Point) (rest : List Part) (P : Seen → Seen → Type 0) → Leaves s t → Gets body rest p q
    → ((v w : World) → s.told ≡ Some v → t.told ≡ Some w → SameBesidesOpens v w → P (record { world = v; left = kept ++ body_in v (p.left body) }) (record { world = w; left = more ++ body_in w rest }))
    → Both (seen_of heard kept (Some body) (at_stage s p)) (seen_of heard more (Some body) (at_stage t q)) P
step_seen heard kept more body p q s t rest P leaves g h =
    subst (λ (z : Rules). Both (seen_of heard kept (Some body) (at_stage s p)) (seen_in (tells heard z) more (q.left body) t.told) P) (sym (ap (λ (z : Playing). z.rules) g.is))
    (subst (λ parts. Both (seen_of heard kept (Some body) (at_stage s p)) (seen_in (tells heard p.rules) more parts t.told) P) (sym (left_is p q body rest g))
    (both_seen (tells heard p.rules) kept more (p.left body) rest s.told t.told P leaves h))

-- ---- a request

reply_status : (a b c : ℕ) (f g : List Field) (d : ℕ) → Replied a f b ≡ Replied c g d → c ≡ a
reply_status a b c f g d e = cc

reply_fields : (a b c : ℕ) (f g : List Field) (d : ℕ) → Replied a f b ≡ Replied c g d → g ≡ f
reply_fields a b c f g d e = cc

module _ (p q : Playing) (s t : Point) (request : Asked) (now : Moment) (answer : Answer) (path : WebPath) (asked : List Field) (heard : Bool) (before own : ℕ)
    (status : ℕ) (headers : List Field) (number : ℕ) where
  abbrev Told : Heard → Type 0
  Told told = (world : Option World) × RepliesIn world path asked (Rose before (t.faults + own)) (record { status = status; headers = headers }) (seen_of told [] (Some number) (at_stage t q))

  module _ (is : IsAskedFor path asked request heard) (less : before ≤ s.faults + own) (said : answer ≡ Replied status headers number) (x : Answered p s t request answer q) (holds : TellsOpen t q) where
    same_rules_on : q.rules ≡ p.rules
    same_rules_on = ap (λ (z : Playing). z.rules) x.gets.is

    number_is : number ≡ p.replies
    number_is = reply_number _ _ _ _ _ _ (sym x.is ∙ said)

    parts_are : q.left number ≡ x.reply.parts
    parts_are = ap q.left number_is ∙ ap (λ (z : Playing). z.left p.replies) x.gets.is ∙ put_same p.replies x.reply.parts p.left

    open_parts : (w : World) → t.told ≡ Some w → AllByRecursion (HasOpen w (q.held number)) x.reply.parts
    open_parts w told = subst (AllByRecursion (HasOpen w (q.held number))) parts_are (holds.files w told number)

    told_some : heard ≡ true → are_peer_rules p.rules ≡ true → (v w : World) → s.told ≡ Some v → t.told ≡ Some w → SameBesidesOpens v w → MeetsNone v.tree path
        → seen_of (AskedFor path) [] (Some number) (at_stage t q) ≡ Some (record { world = w; left = body_in w (q.left number) }) → Told (AskedFor path)
    told_some h e v w old new same none seen =
        let target = target_by p.rules path asked request e is.get (is.is h) in (
          Some v,
          (
            record { world = w; left = body_in w (q.left number) },
            seen,
            same,
            record {
              fields = fields_of request;
              carries = is.get.fields;
              reply = x.reply;
              right = right_more (fields_of request) path v x.reply before s.faults t.faults own less (right_by p q s t request now answer path v w e target old new none x holds);
              status = reply_status _ _ _ _ _ _ (sym x.is ∙ said);
              headers = reply_fields _ _ _ _ _ _ (sym x.is ∙ said);
              body = ap (body_in w) parts_are ∙ sym (same_body v w (q.held number) x.reply.parts same (open_parts w new));
            },
          ),
        )

    by_links : heard ≡ true → are_peer_rules p.rules ≡ true → (v w : World) → s.told ≡ Some v → t.told ≡ Some w → SameBesidesOpens v w → (y : Bool) → is_clear_at path v.tree ≡ y → Told (AskedFor path)
    by_links h e v w old new same false links =
        (None, ap (seen_in (tells (AskedFor path) q.rules) [] (q.left number)) new ∙ seen_linked (tells (AskedFor path) q.rules) [] (q.left number) w (on_tree false links))
      where
        on_tree : (y : Bool) → is_clear_at path v.tree ≡ y → tells (AskedFor path) q.rules w.tree ≡ y
        on_tree y f = ap (λ z. are_peer_rules z && is_clear_at path w.tree) same_rules_on ∙ ap (λ z. z && is_clear_at path w.tree) e ∙ ap (is_clear_at path) same.tree ∙ f
    by_links h e v w old new same true links = told_some h e v w old new same (clear_meets path v.tree links)
        (ap (seen_in (tells (AskedFor path) q.rules) [] (q.left number)) new ∙ seen_some (tells (AskedFor path) q.rules) [] (q.left number) w (on_tree true links))
      where
        on_tree : (y : Bool) → is_clear_at path v.tree ≡ y → tells (AskedFor path) q.rules w.tree ≡ y
        on_tree y f = ap (λ z. are_peer_rules z && is_clear_at path w.tree) same_rules_on ∙ ap (λ z. z && is_clear_at path w.tree) e ∙ ap (is_clear_at path) same.tree ∙ f

    by_told : heard ≡ true → are_peer_rules p.rules ≡ true → (old new : Option World) → s.told ≡ old → t.told ≡ new → Both old new SameBesidesOpens → Told (AskedFor path)
    by_told h e None None a b same = (None, ap (seen_in (tells (AskedFor path) q.rules) [] (q.left number)) b)
    by_told h e None (Some w) a b same = absurd same
    by_told h e (Some v) None a b same = absurd same
    by_told h e (Some v) (Some w) a b same = by_links h e v w a b same (is_clear_at path v.tree) refl

    by_rules : heard ≡ true → (y : Bool) → are_peer_rules p.rules ≡ y → Told (AskedFor path)
    by_rules h false e = (None, seen_none (tells (AskedFor path) q.rules) [] (q.left number) t.told (λ tree. ap (λ z. are_peer_rules z && is_clear_at path tree) same_rules_on ∙ ap (λ z. z && is_clear_at path tree) e))
    by_rules h true e = by_told h e s.told t.told refl refl (leaves_by p q s t request answer path (target_by p.rules path asked request e is.get (is.is h)) x)

    -- the reply to a request is of the world before it, where it is told
    pub replied : (told : Heard) → told ≡ heard_by heard path → Told told
    replied told e = subst Told (sym e) (by heard refl)
      where
        by : (y : Bool) → heard ≡ y → Told (heard_by y path)
        by true h = by_rules h (are_peer_rules p.rules) refl
        by false h = (None, seen_none (tells (Unheard path) q.rules) [] (q.left number) t.told (λ tree. refl))

-- ---- a poll

poll_left : (v : World) (whole : Bool) (most : ℕ) (cause : Type 0) (told : Option World) (parts rest : List Part) (piece : List ℕ) → told ≡ Some v → Polls told whole most cause parts (Piece piece) rest
    → body_in v parts ≡ piece ++ body_in v rest
poll_left v whole most cause told [] rest piece e (is, none) = cc
poll_left v whole most cause told (part ∷ parts) rest piece e (inl (given, is, gives)) =
    let same : given ≡ piece = piece_is given piece (sym is) in
    poll_bytes v whole most part parts piece rest (subst (λ o. GivesPart o whole most part parts piece rest) e (subst (λ b. GivesPart told whole most part parts b rest) same gives))
  where
    piece_is : (a b : List ℕ) → Piece a ≡ Piece b → a ≡ b
    piece_is a b e = cc
poll_left v whole most cause told (part ∷ parts) rest piece e (inr (is, none, breaks)) = cc

-- a poll gives a piece that isn't empty
poll_some : (whole : Bool) (most : ℕ) (cause : Type 0) (told : Option World) (parts rest : List Part) (piece : List ℕ) → NoneEmpty parts → Polls told whole most cause parts (Piece piece) rest → 0 < length piece
poll_some whole most cause told [] rest piece full (is, none) = cc
poll_some whole most cause told (text bytes ∷ parts) rest piece full (inl (given, is, gives)) = subst (λ b. 0 < length b) (sym gives.0 ∙ piece_is given piece (sym is)) full.0
  where
    piece_is : (a b : List ℕ) → Piece a ≡ Piece b → a ≡ b
    piece_is a b e = cc
poll_some whole most cause told (slice number start count ∷ parts) rest piece full (inl (given, is, gives)) = subst (λ b. 0 < length b) (piece_is given piece (sym is)) gives.0
  where
    piece_is : (a b : List ℕ) → Piece a ≡ Piece b → a ≡ b
    piece_is a b e = cc
poll_some whole most cause told (part ∷ parts) rest piece full (inr (is, none, breaks)) = cc

poll_over : (whole : Bool) (most : ℕ) (cause : Type 0) (told : Option World) (parts rest : List Part) → Polls told whole most cause parts End rest → (parts ≡ []) × (rest ≡ [])
poll_over whole most cause told [] rest (is, none) = (refl, none)
poll_over whole most cause told (part ∷ parts) rest (inl (given, is, gives)) = cc
poll_over whole most cause told (part ∷ parts) rest (inr (is, none, breaks)) = cc

poll_broke : (whole : Bool) (most : ℕ) (cause : Type 0) (told : Option World) (parts rest : List Part) → Polls told whole most cause parts Broken rest → cause
poll_broke whole most cause told [] rest (is, none) = cc
poll_broke whole most cause told (part ∷ parts) rest (inl (given, is, gives)) = cc
poll_broke whole most cause told (text bytes ∷ parts) rest (inr (is, none, breaks)) = absurd breaks
poll_broke whole most cause told (slice number start count ∷ parts) rest (inr (is, none, breaks)) = breaks

module _ (heard : Heard) (body : ℕ) (p q : Playing) (s t : Point) where
  -- What was taken of the piece came, and the rest of it is kept.
  pub polled_piece : (piece came more : List ℕ) → piece ≡ came ++ more → Polled p s t body (Piece piece) q → TellsOpen t q
      → Both (seen_of heard [] (Some body) (at_stage s p)) (seen_of heard more (Some body) (at_stage t q)) (Came came)
  polled_piece piece came more cut x holds = step_seen heard [] more body p q s t x.rest (Came came) x.leaves x.gets
      (λ v w old new same. (
        same,
        poll_left v s.whole (read_size_of p.rules.settings.read_buf_size) (Rose s.faults t.faults) s.told (p.left body) x.rest piece old x.gives
            ∙ ap₂ ◌++◌ cut (same_body v w (q.held body) x.rest same (open_left p q t body x.rest w x.gets holds new)) ∙ append_assoc came more (body_in w x.rest),
      ))

  pub polled_some : (piece : List ℕ) → Polled p s t body (Piece piece) q → AreFull p → 0 < length piece
  polled_some piece x full = poll_some s.whole (read_size_of p.rules.settings.read_buf_size) (Rose s.faults t.faults) s.told (p.left body) x.rest piece (full body) x.gives

  -- Nothing is left.
  pub polled_end : Polled p s t body End q → Both (seen_of heard [] (Some body) (at_stage s p)) (seen_of heard [] (Some body) (at_stage t q)) (λ v w. Came [] v w × (v.left ≡ []))
  polled_end x =
      let over = poll_over s.whole (read_size_of p.rules.settings.read_buf_size) (Rose s.faults t.faults) s.told (p.left body) x.rest x.gives in
      step_seen heard [] [] body p q s t x.rest (λ v w. Came [] v w × (v.left ≡ [])) x.leaves x.gets
      (λ v w old new same. ((same, ap (body_in v) over.0 ∙ sym (ap (body_in w) over.1)), ap (body_in v) over.0))

  pub polled_broken : Polled p s t body Broken q → Rose s.faults t.faults × Both (seen_of heard [] (Some body) (at_stage s p)) (seen_of heard [] (Some body) (at_stage t q)) (λ v w. SameBesidesOpens v.world w.world)
  polled_broken x = (
    poll_broke s.whole (read_size_of p.rules.settings.read_buf_size) (Rose s.faults t.faults) s.told (p.left body) x.rest x.gives,
    step_seen heard [] [] body p q s t x.rest (λ v w. SameBesidesOpens v.world w.world) x.leaves x.gets (λ v w old new same. same),
  )

  pub polled_refused : Refuses p s t (Poll body) q → (e : NoMemory) → Both (seen_of heard [] (Some body) (at_stage s p)) (seen_of heard [] (Some body) (at_stage t q)) (Came [])
  polled_refused x e =
      let rules_same : q.rules ≡ p.rules = ap (λ (z : Playing). z.rules) x.is in
      let left_same : q.left body ≡ p.left body = ap (λ (z : Playing). z.left body) x.is in
      subst (λ (z : Rules). Both (seen_of heard [] (Some body) (at_stage s p)) (seen_in (tells heard z) [] (q.left body) t.told) (Came [])) (sym rules_same)
      (both_seen (tells heard p.rules) [] [] (p.left body) (q.left body) s.told t.told (Came []) (x.makes e)
      (λ v w old new same. (same, ap (body_in v) (sym left_same) ∙ same_body v w (q.held body) (q.left body) same (x.held.files w new body))))

-- What is kept of a piece is given, and the world stays.
pub gave_kept : (heard : Heard) (body : Option ℕ) (kept came more : List ℕ) (a : Stage) → kept ≡ came ++ more → Both (seen_of heard kept body a) (seen_of heard more body a) (Came came)
gave_kept heard body kept came more a cut =
    both_seen (tells heard a.playing.rules) kept more (left_at body a.playing) (left_at body a.playing) a.at.told a.at.told (Came came) (both_same a.at.told a.at.told SameBesidesOpens same_besides refl)
    (λ v w old new same.
    let one : v ≡ w = some_same v w (sym old ∙ new) in
    (same, ap (λ k. k ++ body_in v (left_at body a.playing)) cut ∙ append_assoc came more (body_in v (left_at body a.playing)) ∙ ap (λ u. came ++ (more ++ body_in u (left_at body a.playing))) one))
  where
    some_same : (v w : World) → Some v ≡ Some w → v ≡ w
    some_same v w e = cc

-- ---- the calls of a peer

-- What is told is the disk's world.
pub told_world : (heard : Heard) (kept : List ℕ) (body : Option ℕ) (a : Stage) (v : Seen) → seen_of heard kept body a ≡ Some v → a.at.told ≡ Some v.world
told_world heard kept body a v e = by a.at.told refl e
  where
    some_world : (u w : Seen) → Some u ≡ Some w → Some u.world ≡ Some w.world
    some_world u w e = cc

    by : (told : Option World) → a.at.told ≡ told → seen_in (tells heard a.playing.rules) kept (left_at body a.playing) told ≡ Some v → a.at.told ≡ Some v.world
    by None is e = cc
    by (Some w) is e = by_test (tells heard a.playing.rules w.tree) e
      where
        by_test : (b : Bool) → cond b (Some (record { world = w; left = kept ++ body_in w (left_at body a.playing) })) None ≡ Some v → a.at.told ≡ Some v.world
        by_test true e = is ∙ some_world (record { world = w; left = kept ++ body_in w (left_at body a.playing) }) v e
        by_test false e = cc

-- What is named behind a reply is its path.
named_by : (heard : Bool) (told : Heard) (path : WebPath) (own : ℕ) → told ≡ heard_by heard path → ForSome (named_in told own) (λ at. at ≡ path)
named_by heard told path own told_is = subst (λ h. ForSome (named_in h own) (λ at. at ≡ path)) (sym told_is) (by (own == 0) heard)
  where
    by : (none heard : Bool) → ForSome (cond none (path_of (heard_by heard path)) None) (λ at. at ≡ path)
    by true true at e = cc
    by true false at e = cc
    by false heard at e = cc

-- and nothing behind one that was refused
none_named : (heard : Heard) (own : ℕ) → 0 < own → named_in heard own ≡ None
none_named heard own some = by (own == 0) refl
  where
    by : (b : Bool) → (own == 0) ≡ b → cond b (path_of heard) None ≡ None
    by true e = let none : own ≡ 0 = eqb-true own 0 e in absurd (omega (arith, some, none))
    by false e = refl

-- a reply was given to a request that a player was asked behind other steps
pub gets_reply : (s : PeerState) (m b : Stage) (request : Asked) (now : Moment) (answer : Answer) (path : WebPath) (asked : List Field) (heard : Bool) (told : Heard) (own : ℕ) (kept : List ℕ)
    (status : ℕ) (headers : List Field) (number : ℕ) → told ≡ heard_by heard path → kept ≡ [] → IsAskedFor path asked request heard → s.faults ≤ m.at.faults + own → answer ≡ Replied status headers number
    → Stepped m (Request request now) (Ok answer) b → (IsAskable path asked → StaysStill path s (peer_in told kept (Some number) own b)) → TurnsOnce s (peer_in told kept (Some number) own b)
    → (IsAskable path asked → Both s.world b.at.told GoesOn) → GetsPeer s path asked (Ok (record { status = status; headers = headers })) (peer_in told kept (Some number) own b)
gets_reply s m b request now answer path asked heard told own kept status headers number told_is none is less said (x, holds) stays turns goes = record {
  counts = omega (arith, less, x.goes.faults);
  is = subst (λ k. IsGot path asked s (Ok (record { status = status; headers = headers })) (peer_in told k (Some number) own b)) (sym none)
      (replied m.playing b.playing m.at b.at request now answer path asked heard s.faults own status headers number is less said x holds told told_is);
  stays = stays;
  turns = turns;
  owns = told_world told kept (Some number) b;
  goes = goes;
  names = named_by heard told path own told_is;
}

not_zero : (n a b : ℕ) → n ≡ min a b → 0 < a → 0 < b → n ≡ 0 → ⊥
not_zero n a b e f g h = omega (arith, e, f, g, h)

front_fits : (n a b : ℕ) → n ≡ min a b → n ≤ b
front_fits n a b e = omega (arith, e)

-- bytes are given of what is kept of a piece
pub gives_kept : (heard : Heard) (body : Option ℕ) (own : ℕ) (a : Stage) (kept into more : List ℕ) (n : ℕ) → kept ≡ take n into ++ more → n ≡ min (length kept) (length into) → 0 < length kept → 0 < length into
    → GivesPeer (peer_in heard kept body own a) into (Ok n) (peer_in heard more body own a)
gives_kept heard body own a kept into more n cut count some room = record {
  counts = omega arith;
  is = (
    front_fits n (length kept) (length into) count,
    both_map (seen_of heard kept body a) (seen_of heard more body a) (Came (take n into)) (λ v w. Came (take n into) v w × (n ≡ 0 → v.left ≡ []))
        (λ v w came. (came, λ zero. absurd (not_zero n (length kept) (length into) count some room zero))) (gave_kept heard body kept (take n into) more a cut),
  );
  stands = both_same a.at.told a.at.told SameBesidesOpens same_besides refl;
  path = refl;
}

-- nothing is left where there was no reply
pub gives_none : (heard : Heard) (own : ℕ) (a : Stage) (kept into : List ℕ) → kept ≡ [] → GivesPeer (peer_in heard kept None own a) into (Ok 0) (peer_in heard kept None own a)
gives_none heard own a kept into none = subst (λ k. GivesPeer (peer_in heard k None own a) into (Ok 0) (peer_in heard k None own a)) (sym none) (record {
  counts = omega arith;
  is = (
    omega arith,
    both_seen (tells heard a.playing.rules) [] [] [] [] a.at.told a.at.told (λ v w. Came (take 0 into) v w × (◌≡◌ {A = ℕ} 0 0 → v.left ≡ []))
        (both_same a.at.told a.at.told SameBesidesOpens same_besides refl) (λ v w old new same. ((same, refl), λ zero. refl)),
  );
  stands = both_same a.at.told a.at.told SameBesidesOpens same_besides refl;
  path = refl;
})

-- what a poll of the last reply's body gives, where nothing is kept of the last piece
module _ (heard : Heard) (body own : ℕ) (at : Option ℕ) (polled : at ≡ Some body) (a b : Stage) (kept into : List ℕ) (none : kept ≡ []) where
  from_none : (result : Result ℕ PeerFault) (more : List ℕ) → GivesPeer (peer_in heard [] (Some body) own a) into result (peer_in heard more (Some body) own b)
      → GivesPeer (peer_in heard kept at own a) into result (peer_in heard more at own b)
  from_none result more g = subst (λ x. GivesPeer (peer_in heard kept x own a) into result (peer_in heard more x own b)) (sym polled)
      (subst (λ k. GivesPeer (peer_in heard k (Some body) own a) into result (peer_in heard more (Some body) own b)) (sym none) g)

  pub gives_piece : (piece more : List ℕ) (n : ℕ) → piece ≡ take n into ++ more → n ≡ min (length piece) (length into) → 0 < length into → AreFull a.playing
      → Stepped a (Poll body) (Ok (Piece piece)) b → GivesPeer (peer_in heard kept at own a) into (Ok n) (peer_in heard more at own b)
  gives_piece piece more n cut count room full (x, holds) = from_none (Ok n) more (record {
    counts = omega (arith, x.goes.faults);
    is = (
      front_fits n (length piece) (length into) count,
      both_map (seen_of heard [] (Some body) a) (seen_of heard more (Some body) b) (Came (take n into)) (λ v w. Came (take n into) v w × (n ≡ 0 → v.left ≡ []))
          (λ v w came. (came, λ zero. absurd (not_zero n (length piece) (length into) count (polled_some heard body a.playing b.playing a.at b.at piece x full) room zero)))
          (polled_piece heard body a.playing b.playing a.at b.at piece (take n into) more cut x holds),
    );
    stands = x.leaves;
    path = refl;
  })

  pub gives_end : Stepped a (Poll body) (Ok End) b → (more : List ℕ) → more ≡ [] → GivesPeer (peer_in heard kept at own a) into (Ok 0) (peer_in heard more at own b)
  gives_end (x, holds) more over = from_none (Ok 0) more (subst (λ k. GivesPeer (peer_in heard [] (Some body) own a) into (Ok 0) (peer_in heard k (Some body) own b)) (sym over) (record {
    counts = omega (arith, x.goes.faults);
    is = (
      omega arith,
      both_map (seen_of heard [] (Some body) a) (seen_of heard [] (Some body) b) (λ v w. Came [] v w × (v.left ≡ [])) (λ v w. Came [] v w × (0 ≡ 0 → v.left ≡ []))
          (λ v w came. (came.0, λ zero. came.1)) (polled_end heard body a.playing b.playing a.at b.at x),
    );
    stands = x.leaves;
    path = refl;
  }))

  pub gives_broken : Stepped a (Poll body) (Ok Broken) b → (more : List ℕ) → more ≡ [] → GivesPeer (peer_in heard kept at own a) into (Err PeerFailed) (peer_in heard more at own b)
  gives_broken (x, holds) more over = from_none (Err PeerFailed) more (subst (λ k. GivesPeer (peer_in heard [] (Some body) own a) into (Err PeerFailed) (peer_in heard k (Some body) own b)) (sym over) (record {
    counts = omega (arith, x.goes.faults);
    is = (rose_more (a.at.faults + own) a.at.faults b.at.faults own (omega arith) (polled_broken heard body a.playing b.playing a.at b.at x).0, (polled_broken heard body a.playing b.playing a.at b.at x).1);
    stands = x.leaves;
    path = refl;
  }))

  pub gives_refused : (e : NoMemory) → Stepped a (Poll body) (Err e) b → (more : List ℕ) → more ≡ [] → GivesPeer (peer_in heard kept at own a) into (Err LacksMemory) (peer_in heard more at own b)
  gives_refused e x more over = from_none (Err LacksMemory) more (subst (λ k. GivesPeer (peer_in heard [] (Some body) own a) into (Err LacksMemory) (peer_in heard k (Some body) own b)) (sym over) (record {
    counts = omega (arith, x.goes.faults);
    is = polled_refused heard body a.playing b.playing a.at b.at x e;
    stands = x.makes e;
    path = refl;
  }))

-- A poll is answered by a piece, the end or a break.
poll_kinds : (whole : Bool) (most : ℕ) (cause : Type 0) (told : Option World) (parts rest : List Part) (answer : Answer) → Polls told whole most cause parts answer rest
    → ((piece : List ℕ) → answer ≡ Piece piece → ⊥) → (answer ≡ End → ⊥) → (answer ≡ Broken → ⊥) → ⊥
poll_kinds whole most cause told [] rest answer (is, none) no_piece no_end no_break = no_end is
poll_kinds whole most cause told (part ∷ parts) rest answer (inl (piece, is, gives)) no_piece no_end no_break = no_piece piece is
poll_kinds whole most cause told (part ∷ parts) rest answer (inr (is, none, breaks)) no_piece no_end no_break = no_break is

pub poll_no_reply : (a b : Stage) (body : ℕ) (answer : Answer) (status : ℕ) (headers : List Field) (number : ℕ) → answer ≡ Replied status headers number → Stepped a (Poll body) (Ok answer) b → ⊥
poll_no_reply a b body answer status headers number is (x, holds) =
    poll_kinds a.at.whole (read_size_of a.playing.rules.settings.read_buf_size) (Rose a.at.faults b.at.faults) a.at.told (a.playing.left body) x.rest answer x.gives
    (λ piece e. no_piece piece (sym is ∙ e)) (λ e. no_end (sym is ∙ e)) (λ e. no_break (sym is ∙ e))
  where
    no_piece : (piece : List ℕ) → Replied status headers number ≡ Piece piece → ⊥
    no_piece piece e = cc

    no_end : Replied status headers number ≡ End → ⊥
    no_end e = cc

    no_break : Replied status headers number ≡ Broken → ⊥
    no_break e = cc

pub poll_not_done : (a b : Stage) (body : ℕ) (answer : Answer) → answer ≡ Done → Stepped a (Poll body) (Ok answer) b → ⊥
poll_not_done a b body answer is (x, holds) =
    poll_kinds a.at.whole (read_size_of a.playing.rules.settings.read_buf_size) (Rose a.at.faults b.at.faults) a.at.told (a.playing.left body) x.rest answer x.gives
    (λ piece e. no_piece piece (sym is ∙ e)) (λ e. no_end (sym is ∙ e)) (λ e. no_break (sym is ∙ e))
  where
    no_piece : (piece : List ℕ) → Done ≡ Piece piece → ⊥
    no_piece piece e = cc

    no_end : Done ≡ End → ⊥
    no_end e = cc

    no_break : Done ≡ Broken → ⊥
    no_break e = cc

-- a step that is answered so
pub stepped_as : (a b : Stage) (step : Step) (answer other : Answer) → answer ≡ other → Stepped a step (Ok answer) b → Stepped a step (Ok other) b
stepped_as a b step answer other is done = subst (λ x. Stepped a step (Ok x) b) is done

-- What the end of a body and a turn leave: counts don't fall, and no reply is given.
pub abandoned_counts : (a b : Stage) (body : ℕ) (result : Result Answer NoMemory) → Stepped a (Abandon body) result b → (a.at.faults ≤ b.at.faults) × (b.playing.replies ≡ a.playing.replies)
abandoned_counts a b body (Ok answer) (x, holds) = (x.0.goes.faults, ap (λ (z : Playing). z.replies) x.3.is)
abandoned_counts a b body (Err e) x = (x.goes.faults, ap (λ (z : Playing). z.replies) x.is)

pub turned_counts : (a b : Stage) (result : Result Answer NoMemory) → Stepped a Turn result b → (a.at.faults ≤ b.at.faults) × (b.playing.replies ≡ a.playing.replies)
turned_counts a b (Ok answer) (x, holds) = (x.0.goes.faults, ap (λ (z : Playing). z.replies) x.3)
turned_counts a b (Err e) x = (x.goes.faults, ap (λ (z : Playing). z.replies) x.is)

pub asked_counts : (a b : Stage) (request : Asked) (now : Moment) (result : Result Answer NoMemory) → Stepped a (Request request now) result b → a.at.faults ≤ b.at.faults
asked_counts a b request now (Ok answer) (x, holds) = x.goes.faults
asked_counts a b request now (Err e) x = x.goes.faults

-- A request is answered by a reply.
pub is_replied : (a b : Stage) (request : Asked) (now : Moment) (answer : Answer) → Stepped a (Request request now) (Ok answer) b → ((status : ℕ) (headers : List Field) (number : ℕ) → answer ≡ Replied status headers number → ⊥) → ⊥
is_replied a b request now answer (x, holds) none = none _ _ _ x.is

-- A call that was refused for the count of replies raised a count of its own.
pub gets_refused : (heard : Heard) (kept : List ℕ) (body : Option ℕ) (own more : ℕ) (a : Stage) (path : WebPath) (asked : List Field) → own ≤ more → Rose own more
    → GetsPeer (peer_in heard kept body own a) path asked (Err PeerFailed) (peer_in heard kept body more a)
gets_refused heard kept body own more a path asked less rose = record {
  counts = omega (arith, less);
  is = by rose;
  stays = λ askable. tt;
  turns = tt;
  owns = tt;
  goes = λ askable. tt;
  names = none_named heard more (some rose);
}
  where
    some : Rose own more → 0 < more
    some (inl lt) = omega (arith, lt)
    some (inr most) = omega (arith, most)

    by : Rose own more → Rose (a.at.faults + own) (a.at.faults + more)
    by (inl lt) = inl (omega (arith, lt))
    by (inr most) = inr (omega (arith, most))

-- one more, up to the greatest, rose
pub one_rose : (own : ℕ) → own ≤ greatest → (own ≤ min (own + 1) greatest) × Rose own (min (own + 1) greatest)
one_rose own less = by (own == greatest) refl
  where
    by : (b : Bool) → (own == greatest) ≡ b → (own ≤ min (own + 1) greatest) × Rose own (min (own + 1) greatest)
    by true e = let same : own ≡ greatest = eqb-true own greatest e in (omega (arith, same), inr (omega (arith, same)))
    by false e = let other : own ≢ greatest = other_keys own greatest e in (omega (arith, less, other), inl (omega (arith, less, other)))

-- Memory was refused, or what was asked no request can say: nothing is told of a reply.
pub gets_lacking : (s t : PeerState) (path : WebPath) (asked : List Field) → s.faults ≤ t.faults → GetsPeer s path asked (Err LacksMemory) t
gets_lacking s t path asked less = record { counts = less; is = tt; stays = λ askable. tt; turns = tt; owns = tt; goes = λ askable. tt; names = tt }

pub gets_unheard : (s : PeerState) (told : Heard) (kept : List ℕ) (own : ℕ) (a : Stage) (path : WebPath) (asked : List Field) (got : Got) → told ≡ Unheard path → s.faults ≤ a.at.faults + own
    → (IsAskable path asked → ⊥) → GetsPeer s path asked (Ok got) (peer_in told kept None own a)
gets_unheard s told kept own a path asked got unheard less never = subst (λ h. GetsPeer s path asked (Ok got) (peer_in h kept None own a)) (sym unheard) (record {
  counts = less;
  is = (None, none);
  stays = λ askable. absurd (never askable);
  turns = λ v w before after. absurd (nothing w (sym after ∙ none));
  owns = told_world (Unheard path) kept None a;
  goes = λ askable. absurd (never askable);
  names = named_by false (Unheard path) path own refl;
})
  where
    none : seen_in (tells (Unheard path) a.playing.rules) kept [] a.at.told ≡ None
    none = seen_none (tells (Unheard path) a.playing.rules) kept [] a.at.told (λ tree. refl)

    nothing : (w : Seen) → Some w ≡ None → ⊥
    nothing w e = cc

-- The same call, which leaves the same.
pub gives_same : (s t t' : PeerState) (into : List ℕ) (result : Result ℕ PeerFault) → t ≡ t' → GivesPeer s into result t' → GivesPeer s into result t
gives_same s t t' into result e g = subst (GivesPeer s into result) (sym e) g

pub peer_same : (heard other : Heard) (kept : List ℕ) (body at : Option ℕ) (own more : ℕ) (a b : Stage) → other ≡ heard → at ≡ body → more ≡ own → b ≡ a
    → peer_in other kept at more b ≡ peer_in heard kept body own a
peer_same heard other kept body at own more a b h k o s =
    ap (λ x. peer_in x kept at more b) h ∙ ap (λ x. peer_in heard kept x more b) k ∙ ap (λ x. peer_in heard kept body x b) o ∙ ap (peer_in heard kept body own) s
