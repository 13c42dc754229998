-- A player over a world of which nothing is to change tells the same one behind a request.
use Rattle.std.proofs.Common.{◌≡◌, ◌++◌, ℕ, List, Bool, true, false, cond, Option, None, Some, Result, Ok, Err, refl, sym, ap, subst, ◌∙◌}
use Rattle.std.proofs.lemmas.Bool.{and_from, and_parts}
use Rattle.std.specs.Result.{is_err}
use Rattle.dav_io.specs.Told.{Both}
use Rattle.dav_io.proofs.ToldLemmas.{both_then, told_after}
use Rattle.dav_io.specs.declared.clock.Moment.{Moment}
use Rattle.dav_io.specs.declared.failure.NoMemory.{NoMemory}
use Rattle.dav_io.specs.declared.fields.Field.{Field}
use Rattle.dav_core.specs.DavPath.{WebPath}
use Rattle.dav_core.specs.Changes.{turned}
use Rattle.dav_core.specs.declared.tree.Row.{Row}
use Rattle.dav_core.specs.World.{SameBesidesOpens, World}
use Rattle.dav_core.proofs.UnchangedLemmas.{same_besides, same_besides_then}
use Rattle.dav_model.specs.declared.answer.Answer.{Answer}
use Rattle.dav_model.specs.declared.step.Step.TheVariants.{Abandon, Request, Turn}
use Rattle.dav_model.specs.Conditions.{Asked}
use Rattle.dav_model.specs.Play.{Playing, Stage, Stepped}
use Rattle.dav_model.specs.Rules.{Rules}
use Rattle.dav_model.specs.Still.{StandsAs}
use Rattle.dav_model.specs.Trail.{Leaves}
use Rattle.dav_model.proofs.StillSteps.{still_after, still_left}
use Rattle.dav_fetch.specs.Peer.{GoesOn, Seen, StaysStill, TurnsOnce, body_in}
use Rattle.dav_mirror.specs.Asking.{Hears, IsAskedFor}
use Rattle.dav_mirror.specs.Seen.{are_peer_rules, heard_by, is_clear_at, left_at, peer_in, seen_in, seen_of, tells}
use Rattle.dav_mirror.specs.declared.play_peer.Heard.{Heard}
use Rattle.dav_mirror.specs.declared.play_peer.Heard.TheVariants.{Asked as AskedFor, Unasked, Unheard}
use Rattle.dav_mirror.specs.declared.asking.Asking.{Asking}
use Rattle.dav_mirror.proofs.Coming.{answered_leaves}
use Rattle.dav_mirror.proofs.Telling.{leaves_by, meets_clear, seen_some, target_by, told_world}

-- the end of a body
pub abandoned_still : (a b : Stage) (body : ℕ) (result : Result Answer NoMemory) → Stepped a (Abandon body) result b → (w : World) → StandsAs w a.at → StandsAs w b.at
abandoned_still a b body (Ok answer) (x, holds) w still = still_after w a.playing b.playing a.at b.at (Abandon body) answer refl x still
abandoned_still a b body (Err e) x w still = still_left w a.at b.at (x.makes e) still

pub abandoned_rules : (a b : Stage) (body : ℕ) (result : Result Answer NoMemory) → Stepped a (Abandon body) result b → b.playing.rules ≡ a.playing.rules
abandoned_rules a b body (Ok answer) (x, holds) = ap (λ (z : Playing). z.rules) x.3.is
abandoned_rules a b body (Err e) x = ap (λ (z : Playing). z.rules) x.is

pub abandoned_leaves : (a b : Stage) (body : ℕ) (result : Result Answer NoMemory) → Stepped a (Abandon body) result b → Leaves a.at b.at
abandoned_leaves a b body (Ok answer) (x, holds) = x.1
abandoned_leaves a b body (Err e) x = x.makes e

turned_still : (a b : Stage) (result : Result Answer NoMemory) → Stepped a Turn result b → (w : World) → StandsAs w a.at → StandsAs w b.at
turned_still a b (Ok answer) (x, holds) w still = still_after w a.playing b.playing a.at b.at Turn answer refl x still
turned_still a b (Err e) x w still = still_left w a.at b.at (x.makes e).0 still

turned_rules : (a b : Stage) (result : Result Answer NoMemory) → Stepped a Turn result b → b.playing.rules ≡ a.playing.rules
turned_rules a b (Ok answer) (x, holds) = ap (λ (z : Playing). z.rules) x.3
turned_rules a b (Err e) x = ap (λ (z : Playing). z.rules) x.is

-- ---- what is told

-- what is told is the disk's world, under the rules of a peer
record IsTold (a : Stage) (v : Seen) : Type 0 where
  pub rules : are_peer_rules a.playing.rules ≡ true
  pub told : a.at.told ≡ Some v.world

peer_rules_on : (heard : Heard) (rules : Rules) (tree : List Row) → tells heard rules tree ≡ true → are_peer_rules rules ≡ true
peer_rules_on Unasked rules tree e = e
peer_rules_on (AskedFor path) rules tree e = (and_parts (are_peer_rules rules) (is_clear_at path tree) e).0
peer_rules_on (Unheard path) rules tree e = cc

is_told : (heard : Heard) (kept : List ℕ) (body : Option ℕ) (a : Stage) (v : Seen) → seen_of heard kept body a ≡ Some v → IsTold a v
is_told heard kept body a v seen = by a.at.told refl seen
  where
    by : (told : Option World) → a.at.told ≡ told → seen_in (tells heard a.playing.rules) kept (left_at body a.playing) told ≡ Some v → IsTold a v
    by None is e = cc
    by (Some w) is e = by_test (tells heard a.playing.rules w.tree) refl e
      where
        by_test : (b : Bool) → tells heard a.playing.rules w.tree ≡ b → cond b (Some (record { world = w; left = kept ++ body_in w (left_at body a.playing) })) None ≡ Some v → IsTold a v
        by_test false t e = cc
        by_test true t e = record { rules = peer_rules_on heard a.playing.rules w.tree t; told = told_world heard kept body a v seen }

told_again : (more : List ℕ) (next : Option ℕ) (b : Stage) (path : WebPath) (w : World) → are_peer_rules b.playing.rules ≡ true → b.at.told ≡ Some w → is_clear_at path w.tree ≡ true
    → seen_of (AskedFor path) more next b ≡ Some (record { world = w; left = more ++ body_in w (left_at next b.playing) })
told_again more next b path w rules told clear =
    ap (seen_in (tells (AskedFor path) b.playing.rules) more (left_at next b.playing)) told
    ∙ seen_some (tells (AskedFor path) b.playing.rules) more (left_at next b.playing) w (and_from (are_peer_rules b.playing.rules) (is_clear_at path w.tree) rules clear)

-- ---- a request

module _ (heard told : Heard) (other : Bool) (kept more : List ℕ) (body : Option ℕ) (own now_own number : ℕ) (a m n b : Stage) (request : Asked) (now : Moment) (turns : Result Answer NoMemory) (answer : Answer)
    (path : WebPath) (asked : List Field) (turn : Stepped m Turn turns n) (replied : Stepped n (Request request now) (Ok answer) b) (is : IsAskedFor path asked request other) where
  -- what a player tells behind the end of a reply, a turn and a request that is heard
  pub stays_told : told ≡ heard_by other path → m.playing.rules ≡ a.playing.rules → ((w : World) → StandsAs w a.at → StandsAs w m.at) → other ≡ true
      → StaysStill path (peer_in heard kept body own a) (peer_in told more (Some number) now_own b)
  stays_told told_is rules ended on v seen script none =
      let before = is_told heard kept body a v seen in
      let at_m : are_peer_rules m.playing.rules ≡ true = ap are_peer_rules rules ∙ before.rules in
      let at_n : are_peer_rules n.playing.rules ≡ true = ap are_peer_rules (turned_rules m n turns turn) ∙ at_m in
      let x = replied.0 in
      let at_b : are_peer_rules b.playing.rules ≡ true = ap are_peer_rules (ap (λ (z : Playing). z.rules) x.gets.is) ∙ at_n in
      let first : StandsAs v.world a.at = record { now = v.world; told = before.told; same = same_besides v.world; script = script } in
      let then = turned_still m n turns turn v.world (ended v.world first) in
      let last = still_left v.world n.at b.at (leaves_by n.playing b.playing n.at b.at request answer path (target_by n.playing.rules path asked request at_n is.get (is.is on)) x) then in
      let clear : is_clear_at path last.now.tree ≡ true = ap (is_clear_at path) last.same.tree ∙ meets_clear path v.world.tree none in (
        record { world = last.now; left = more ++ body_in last.now (left_at (Some number) b.playing) },
        ap (λ h. seen_of h more (Some number) b) (told_is ∙ ap (λ y. heard_by y path) on) ∙ told_again more (Some number) b path last.now at_b last.told clear,
        last.same,
      )

  -- one batch of changes is made between
  pub world_goes : Leaves a.at m.at → is_err turns ≡ false → Both a.at.told b.at.told GoesOn
  world_goes leaves went =
      both_then a.at.told n.at.told b.at.told GoesOn SameBesidesOpens GoesOn (λ v x w gone same. (gone.0, gone.1, same_besides_then (turned gone.0) x w gone.2 same))
      (both_then a.at.told m.at.told n.at.told SameBesidesOpens (λ y z. SameBesidesOpens (turned y) z) GoesOn (λ v u x same turn. (u, same, turn)) leaves (turned_by_step turns went turn))
      (answered_leaves n b request now asked is.get answer replied)
    where
      turned_by_step : (result : Result Answer NoMemory) → is_err result ≡ false → Stepped m Turn result n → Both m.at.told n.at.told (λ y z. SameBesidesOpens (turned y) z)
      turned_by_step (Ok answer) went (stands, holds) = stands.1
      turned_by_step (Err e) went refused = cc

  pub turns_told : Leaves a.at m.at → is_err turns ≡ false → TurnsOnce (peer_in heard kept body own a) (peer_in told more (Some number) now_own b)
  turns_told leaves went v w before after =
      let (y, at_b, gone) = told_after a.at.told b.at.told GoesOn v.world (world_goes leaves went) (told_world heard kept body a v before) in
      subst (GoesOn v.world) (one y w.world (sym at_b ∙ told_world told more (Some number) b w after)) gone
    where
      one : (y z : World) → Some y ≡ Some z → y ≡ z
      one y z e = cc

-- ---- what is heard

pub hears_some : (o : Option Asking) (asking : Asking) → o ≡ Some asking → Hears o → asking.heard ≡ true
hears_some None asking e h = cc
hears_some (Some x) asking e h = let same : x ≡ asking = cc in ap (λ (z : Asking). z.heard) (sym same) ∙ h

pub hears_none : (o : Option Asking) → o ≡ None → Hears o → ⊥
hears_none None e h = h
hears_none (Some x) e h = cc
