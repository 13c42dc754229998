-- What the steps of a peer leave of the disk that it asks.
use Rattle.std.proofs.Common.{◌≡◌, ◌==◌, ◌≤◌, ◌+◌, ◌∙◌, ℕ, zero, suc, List, [], Bool, true, false, cond, min, Option, None, Some, Result, Ok, Err, refl, sym, ap, subst, eqb-true, arith}
use Rattle.std.specs.Result.{is_err}
use mathlib.Core.Path.{fun_ext}
use Rattle.http.specs.Request.{head_of, body_of}
use Rattle.dav_io.specs.Counts.{greatest}
use Rattle.dav_io.specs.Told.{Both}
use Rattle.dav_io.proofs.ToldLemmas.{both_same, both_then}
use Rattle.dav_io.specs.declared.clock.Moment.{Moment}
use Rattle.dav_io.specs.declared.failure.NoMemory.{NoMemory}
use Rattle.dav_io.specs.declared.fields.Field.{Field}
use Rattle.dav_core.specs.Changes.{turned}
use Rattle.dav_core.specs.DavPath.{WebPath}
use Rattle.dav_core.specs.Disk.{DiskState, Live}
use Rattle.dav_core.specs.Methods.{method_of}
use Rattle.dav_core.specs.World.{World, SameBesidesOpens, put}
use Rattle.dav_core.specs.declared.method.DavMethod.TheVariants.{Get}
use Rattle.dav_core.specs.declared.parse_error.ParseError.{ParseError}
use Rattle.dav_core.proofs.UnchangedLemmas.{put_same, same_besides, same_besides_then}
use Rattle.dav_model.specs.declared.answer.Answer.{Answer}
use Rattle.dav_model.specs.declared.answer.Answer.TheVariants.{Reply as Replied}
use Rattle.dav_model.specs.declared.step.Step.TheVariants.{Abandon, Poll, Request, Turn}
use Rattle.dav_model.specs.declared.target.Target.{Target}
use Rattle.dav_model.specs.declared.target.Target.TheVariants.{At, Methods, Refused, Writes}
use Rattle.dav_model.specs.Conditions.{Asked, Fields, fields_of}
use Rattle.dav_model.specs.Gates.{admitted, asked, bulk_of, is_allowed, is_built, or_refused, unless, weighed, with_method, with_path}
use Rattle.dav_core.specs.Grammar.{parsed}
use Rattle.http_uri.specs.Uri.{uri_path}
use Rattle.dav_model.specs.Head.{Reply}
use Rattle.dav_model.specs.Play.{Lets, Playing, Stage, Stepped, Takes, read_file}
use Rattle.dav_model.specs.Rules.{Knowledge, Rules}
use Rattle.dav_model.specs.Trail.{Leaves, Point, is_writing, target_of}
use Rattle.dav_model.specs.Written.{Makes}
use Rattle.dav_fetch.specs.Turning.{TurnedTimes}
use Rattle.dav_fetch.proofs.Turned.{turned_left, turned_none}
use Rattle.dav_mirror.specs.Asking.{IsGet}
use Rattle.dav_mirror.specs.Came.{CameBy, CameOf, file_of}

-- ---- handles

put_away : {A : Type 0} (h : ℕ) (x : Option A) (f : ℕ → Option A) → f h ≡ None → put h None (put h x f) ≡ f
put_away h x f none = fun_ext (λ n. by n (n == h) refl)
  where
    by : (n : ℕ) (b : Bool) → (n == h) ≡ b → cond b None (cond b x (f n)) ≡ f n
    by n true e = sym (ap f (eqb-true n h e) ∙ none)
    by n false e = refl

taken_let : (file after : Option ℕ) (old mid new : ℕ → Option Live) → Takes file old mid → Lets file after mid new → Takes after old new
taken_let None after old mid new takes (none, same) = subst (λ f. Takes f old new) (sym none) (same ∙ takes)
taken_let (Some h) None old mid new (free, taken) let_go = let_go ∙ ap (put h None) taken ∙ put_away h (Some read_file) old free
taken_let (Some h) (Some g) old mid new (free, taken) (is, same) = subst (λ k. Takes (Some k) old new) (sym is) (free, same ∙ taken)

-- ---- steps

came_by : (s a b : DiskState) (count : ℕ) (file after : Option ℕ) → Takes after s.live b.live → Leaves a b → b.listers ≡ a.listers → CameBy s count file a → CameBy s count after b
came_by s a b count file after live leaves listers by = record {
  turns = by.turns;
  counted = by.counted;
  came = record {
    live = live;
    listers = listers ∙ by.came.listers;
    told = both_then s.told a.told b.told (TurnedTimes by.turns) SameBesidesOpens (TurnedTimes by.turns) (turned_left by.turns) by.came.told leaves;
  };
}

pub came_first : (s : DiskState) → CameBy s 0 None s
came_first s = record { turns = 0; counted = refl; came = record { live = refl; listers = refl; told = both_same s.told s.told (TurnedTimes 0) same_besides refl } }

-- A step that was refused memory leaves what is open.
came_refused : (s : DiskState) (count : ℕ) (file : Option ℕ) (a b : Point) (live : b.live ≡ a.live) → Leaves a b → b.listers ≡ a.listers → CameBy s count file a → CameBy s count file b
came_refused s count file a b live leaves listers by = came_by s a b count file file (subst (Takes file s.live) (sym live) by.came.live) leaves listers by

held_same : (p q : Playing) (body : ℕ) (knows : Knowledge) → q ≡ record p { knows = knows } → q.held body ≡ p.held body
held_same p q body knows is = ap (λ (z : Playing). z.held body) is

pub came_ended : (s : DiskState) (count : ℕ) (a b : Stage) (body : ℕ) (answer : Answer) → Stepped a (Abandon body) (Ok answer) b → CameBy s count (a.playing.held body) a.at → CameBy s count None b.at
came_ended s count a b body answer ((quiet, leaves, lets, gets), holds) by =
    came_by s a.at b.at count (a.playing.held body) None (taken_let (a.playing.held body) None s.live a.at.live b.at.live by.came.live lets) leaves quiet.goes.listers by

pub came_held : (s : DiskState) (count : ℕ) (a b : Stage) (body : ℕ) (e : NoMemory) → Stepped a (Abandon body) (Err e) b → CameBy s count (a.playing.held body) a.at → CameBy s count (b.playing.held body) b.at
came_held s count a b body e x by = subst (λ f. CameBy s count f b.at) (sym (held_same a.playing b.playing body x.knows x.is))
    (came_refused s count (a.playing.held body) a.at b.at x.live (x.makes e) x.goes.listers by)

one_counted : (count turns more : ℕ) → count ≡ min turns greatest → more ≡ min (count + 1) greatest → more ≡ min (suc turns) greatest
one_counted count turns more is one = omega (arith, is, one)

-- A turn is one batch more.
pub came_turned : (s : DiskState) (count more : ℕ) (a b : Stage) (answer : Answer) → more ≡ min (count + 1) greatest → Stepped a Turn (Ok answer) b → CameBy s count None a.at → CameBy s more None b.at
came_turned s count more a b answer one ((quiet, turned_so, live, is), holds) by = record {
  turns = suc by.turns;
  counted = one_counted count by.turns more by.counted one;
  came = record {
    live = live ∙ by.came.live;
    listers = quiet.goes.listers ∙ by.came.listers;
    told = both_then s.told a.at.told b.at.told (TurnedTimes by.turns) (λ v w. SameBesidesOpens (turned v) w) (TurnedTimes (suc by.turns)) (λ u v w before turn. (v, before, turn)) by.came.told turned_so;
  };
}

pub came_unturned : (s : DiskState) (count : ℕ) (a b : Stage) (e : NoMemory) → Stepped a Turn (Err e) b → CameBy s count None a.at → CameBy s count None b.at
came_unturned s count a b e x by = came_refused s count None a.at b.at x.live (x.makes e).0 x.goes.listers by

pub came_went : (s : DiskState) (count more : ℕ) (a b : Stage) (result : Result Answer NoMemory) → is_err result ≡ false → more ≡ min (count + 1) greatest → Stepped a Turn result b → CameBy s count None a.at
    → CameBy s more None b.at
came_went s count more a b (Ok answer) went one done by = came_turned s count more a b answer one done by
came_went s count more a b (Err e) went one done by = cc

pub came_stopped : (s : DiskState) (count : ℕ) (a b : Stage) (result : Result Answer NoMemory) → is_err result ≡ true → Stepped a Turn result b → CameBy s count None a.at → CameBy s count None b.at
came_stopped s count a b (Ok answer) stopped done by = cc
came_stopped s count a b (Err e) stopped done by = came_unturned s count a b e done by

-- ---- a GET writes nothing

reads_get : (fields : Fields) (built allowed : Bool) (found : Result WebPath ParseError) → is_built fields Get ≡ built
    → is_writing (weighed fields (bulk_of []) (cond allowed (with_path Get found) (Refused 405 true))) ≡ false
reads_get fields built false found e = refl
reads_get fields built true (Err fault) e = refl
reads_get fields built true (Ok path) e = ap (λ b. is_writing (or_refused None (unless b 501 true) (asked Get path))) e ∙ by built
  where
    by : (b : Bool) → is_writing (or_refused None (unless b 501 true) (asked Get path)) ≡ false
    by true = refl
    by false = refl

get_reads : (rules : Rules) (said : List Field) (request : Asked) → IsGet said request → is_writing (target_of rules request) ≡ false
get_reads rules said request get =
    ap (λ b. is_writing (weighed (fields_of request) (bulk_of b) (admitted rules.settings true (head_of request)))) get.body
    ∙ ap (λ word. is_writing (weighed (fields_of request) (bulk_of []) (with_method rules.settings true (head_of request) (method_of word)))) get.method
    ∙ reads_get (fields_of request) (is_built (fields_of request) Get) (is_allowed true rules.settings.allow Get) (parsed (uri_path (head_of request).uri) rules.settings.prefix) refl

reading_leaves : (target : Target) (rules : Rules) (k : Knowledge) (fields : Fields) (body : List ℕ) (result : Result Reply NoMemory) (s t : Point) → is_writing target ≡ false → Makes target rules k fields body result s t → Leaves s t
reading_leaves (Writes method path) rules k fields body result s t e makes = cc
reading_leaves (At method path) rules k fields body result s t e makes = makes
reading_leaves Methods rules k fields body result s t e makes = makes
reading_leaves (Refused status close) rules k fields body result s t e makes = makes

pub reply_number : (a b c : ℕ) (f g : List Field) (d : ℕ) → Replied a f b ≡ Replied c g d → d ≡ b
reply_number a b c f g d e = cc

pub answered_leaves : (a b : Stage) (request : Asked) (now : Moment) (said : List Field) → IsGet said request → (answer : Answer) → Stepped a (Request request now) (Ok answer) b → Leaves a.at b.at
answered_leaves a b request now said get answer (x, holds) =
    reading_leaves (target_of a.playing.rules request) a.playing.rules a.playing.knows (fields_of request) (body_of request) (Ok x.reply) a.at b.at (get_reads a.playing.rules said request get) x.makes

module _ (s : DiskState) (count : ℕ) (a b : Stage) (request : Asked) (now : Moment) (said : List Field) (get : IsGet said request) (by : CameBy s count None a.at) where
  pub came_answered : (answer : Answer) (status : ℕ) (headers : List Field) (number : ℕ) → answer ≡ Replied status headers number → Stepped a (Request request now) (Ok answer) b → CameBy s count (b.playing.held number) b.at
  came_answered answer status headers number is (x, holds) =
      let number_is : number ≡ a.playing.replies = reply_number _ _ _ _ _ _ (sym x.is ∙ is) in
      let held : b.playing.held number ≡ x.gets.file = ap b.playing.held number_is ∙ ap (λ (z : Playing). z.held a.playing.replies) x.gets.is ∙ put_same a.playing.replies x.gets.file a.playing.held in
      let leaves = answered_leaves a b request now said get answer (x, holds) in
      subst (λ f. CameBy s count f b.at) (sym held)
      (came_by s a.at b.at count None x.gets.file (subst (λ l. Takes x.gets.file l b.at.live) by.came.live x.live) leaves x.goes.listers by)

  pub came_unanswered : (e : NoMemory) → Stepped a (Request request now) (Err e) b → CameBy s count None b.at
  came_unanswered e x = came_refused s count None a.at b.at x.live
      (reading_leaves (target_of a.playing.rules request) a.playing.rules a.playing.knows (fields_of request) (body_of request) (Err e) a.at b.at (get_reads a.playing.rules said request get) (x.makes e)) x.goes.listers by

-- ---- a poll

pub came_polled : (s : DiskState) (count : ℕ) (a b : Stage) (body : ℕ) (result : Result Answer NoMemory) → Stepped a (Poll body) result b → CameBy s count (a.playing.held body) a.at → CameBy s count (b.playing.held body) b.at
came_polled s count a b body (Ok answer) (x, holds) by =
    let held : b.playing.held body ≡ x.gets.file = ap (λ (z : Playing). z.held body) x.gets.is ∙ put_same body x.gets.file a.playing.held in
    subst (λ f. CameBy s count f b.at) (sym held)
    (came_by s a.at b.at count (a.playing.held body) x.gets.file (taken_let (a.playing.held body) x.gets.file s.live a.at.live b.at.live by.came.live x.live) x.leaves x.goes.listers by)
came_polled s count a b body (Err e) x by = subst (λ f. CameBy s count f b.at) (sym (held_same a.playing b.playing body x.knows x.is))
    (came_refused s count (a.playing.held body) a.at b.at x.live (x.makes e) x.goes.listers by)

pub came_by_poll : (s : DiskState) (count : ℕ) (a b : Stage) (at : Option ℕ) (body : ℕ) (result : Result Answer NoMemory) → at ≡ Some body → Stepped a (Poll body) result b
    → CameBy s count (file_of at a.playing) a.at → CameBy s count (file_of at b.playing) b.at
came_by_poll s count a b at body result is done by =
    subst (λ x. CameBy s count (file_of x b.playing) b.at) (sym is) (came_polled s count a b body result done (subst (λ x. CameBy s count (file_of x a.playing) a.at) is by))

pub came_same : (s : DiskState) (count : ℕ) (a b : Stage) (x y : Option ℕ) → b ≡ a → y ≡ x → CameBy s count (file_of x a.playing) a.at → CameBy s count (file_of y b.playing) b.at
came_same s count a b x y stage body by = subst (λ z. CameBy s count (file_of z b.playing) b.at) (sym body) (subst (λ (z : Stage). CameBy s count (file_of x z.playing) z.at) (sym stage) by)

-- ---- so few turns that the count is full of none

pub few_turns : (count turns : ℕ) → count ≡ min turns greatest → count ≤ 1000000 → turns ≤ 1000000
few_turns count turns is few = omega (arith, is, few)

-- ---- a disk of which nothing was to change

pub stayed : (n : ℕ) (v w : World) → v.script ≡ [] → TurnedTimes n v w → SameBesidesOpens v w
stayed zero v w none came = came
stayed (suc n) v w none (u, came, turn) =
    let before = stayed n v u none came in
    same_besides_then v u w before (subst (λ x. SameBesidesOpens x w) (turned_none u (before.script ∙ none)) turn)

pub left_so : (s t : DiskState) (turns : ℕ) (file : Option ℕ) → CameOf s turns file t → (v w : World) → s.told ≡ Some v → t.told ≡ Some w → v.script ≡ [] → SameBesidesOpens v w
left_so s t turns file came v w before after none =
    stayed turns v w none (subst (λ o. Both (Some v) o (TurnedTimes turns)) after (subst (λ o. Both o t.told (TurnedTimes turns)) before came.told))
