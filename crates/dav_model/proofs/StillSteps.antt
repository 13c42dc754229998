-- Steps by a memory that others teach, over a world that stands still.
use Rattle.std.proofs.Common.{◌≡◌, inl, inr, true, List, [], Some, Ok, ℕ, ◌+◌, refl, sym, ap, subst, ◌∙◌}
use Rattle.dav_io.proofs.ToldLemmas.{told_after}
use Rattle.dav_core.specs.Changes.{turned, turned_by}
use Rattle.dav_core.specs.World.{World, SameBesidesOpens}
use Rattle.dav_core.proofs.UnchangedLemmas.{same_besides_then}
use Rattle.dav_model.specs.declared.step.Step.{Step}
use Rattle.dav_model.specs.declared.step.Step.TheVariants.{Request, Poll, Abandon, Purge, Turn}
use Rattle.dav_model.specs.declared.answer.Answer.{Answer}
use Rattle.dav_model.specs.Play.{Playing, Stage, Stands, Stepped, Gets}
use Rattle.dav_model.specs.Rules.{Knowledge, Learns, Forgets, SameDots}
use Rattle.dav_model.specs.Trail.{Point, Leaves}
use Rattle.dav_model.proofs.JoiningLemmas.{learns_same, step_keeps, step_learns}
use Rattle.dav_model.specs.Still.{Fits, Agree, is_quiet, StandsAs, knowing, knowing_at}

-- ---- what is forgotten again

forgets_none : (k : Knowledge) → Forgets k k
forgets_none k = record { open_same = λ dir time. refl; known = λ dir time has e. (has, e, λ x dot. refl) }

gets_knowing : (body : ℕ) (parts : List _) (p q : Playing) (k : Knowledge) → Gets body parts p q → Gets body parts (knowing k p) (knowing k q)
gets_knowing body parts p q k gets = record {
  file = gets.file;
  is = ap (knowing k) gets.is;
  needs = gets.needs;
  over = gets.over;
}

-- A step that was answered stands also for a player that forgot what it learned by it.
pub stands_forgotten : (p q : Playing) (s t : Point) (x : Step) (a : Answer) → Stands p s t x a q → Stands p s t x a (knowing p.knows q)
unfolding gets_knowing
stands_forgotten p q s t (Request request now) a st = record {
  goes = st.goes;
  reply = st.reply;
  makes = st.makes;
  is = st.is;
  knows = p.knows;
  learns = learns_same s.told p.knows p.knows refl;
  gets = gets_knowing p.replies st.reply.parts (record p { replies = p.replies + 1; knows = st.knows }) q p.knows st.gets;
  live = st.live;
  right = st.right;
  asks = st.asks;
}
stands_forgotten p q s t (Poll body) a st = record {
  goes = st.goes;
  leaves = st.leaves;
  rest = st.rest;
  gives = st.gives;
  gets = gets_knowing body st.rest p q p.knows st.gets;
  live = st.live;
  asks = st.asks;
}
stands_forgotten p q s t (Abandon body) a (quiet, same, live, gets) = (quiet, same, live, gets_knowing body [] p q p.knows gets)
stands_forgotten p q s t (Purge now) a (d, same, (k, is, f)) = (d, same, (p.knows, ap (knowing p.knows) is, forgets_none p.knows))
stands_forgotten p q s t Turn a (quiet, turned_, live, is) = (quiet, turned_, live, ap (knowing p.knows) is)

pub stepped_forgotten : (a b : Stage) (x : Step) (answer : Answer) → Stepped a x (Ok answer) b → Stepped a x (Ok answer) (knowing_at a.playing.knows b)
stepped_forgotten a b x answer (st, held) = (stands_forgotten a.playing b.playing a.at b.at x answer st, record { world = held.world; files = held.files })

-- ---- the world stands still

pub still_left : (w : World) (s t : Point) → Leaves s t → StandsAs w s → StandsAs w t
still_left w s t leaves st = let (v, told, same) = told_after s.told t.told SameBesidesOpens st.now leaves st.told in record {
  now = v;
  told = told;
  same = same_besides_then w st.now v st.same same;
  script = st.script;
}

-- where no batch is to come a turn makes nothing
turned_none : (v : World) → v.script ≡ [] → turned v ≡ v
turned_none v none = ap (turned_by v) none

pub still_after : (w : World) (p q : Playing) (s t : Point) (x : Step) (a : Answer) → is_quiet p.rules x ≡ true → Stands p s t x a q → StandsAs w s → StandsAs w t
still_after w p q s t (Request request now) a e st still = still_left w s t (step_keeps p q s t (Request request now) a e st) still
still_after w p q s t (Poll body) a e st still = still_left w s t (step_keeps p q s t (Poll body) a e st) still
still_after w p q s t (Abandon body) a e st still = still_left w s t (step_keeps p q s t (Abandon body) a e st) still
still_after w p q s t (Purge now) a e st still = still_left w s t (step_keeps p q s t (Purge now) a e st) still
still_after w p q s t Turn a e (quiet, made, live, is) still =
    let (v, told, same) = told_after s.told t.told (λ u v. SameBesidesOpens (turned u) v) still.now made still.told in
    let none : still.now.script ≡ [] = still.same.script ∙ still.script in
    record {
      now = v;
      told = told;
      same = same_besides_then w still.now v still.same (subst (λ u. SameBesidesOpens u v) (turned_none still.now none) same);
      script = still.script;
    }

-- ---- what is learned agrees

fits_now : (k : Knowledge) (w v : World) → v.tree ≡ w.tree → Fits k w → Fits k v
fits_now k w v same fits = record {
  way = λ dir time has is. rw same (fits.way dir time has is);
  names = λ dir time has is there. rw same (fits.names dir time has is (rw same at there));
}

agrees : (k l : Knowledge) (w : World) → Fits k w → Learns (Some w) k l → Agree k l
agrees k l w fits learns dir time had has is found = elim (learns.known dir time has found) [
  | inl (first, was, same) ↦ let e : Some first ≡ Some had = sym was ∙ is in let f : first ≡ had = cc in subst (SameDots has) f same
  | inr shown ↦
      let there = shown w refl (fits.way dir time had is) in
      let names = fits.names dir time had is there.there in
      λ x dot. there.names x dot ∙ sym (names x dot)
]

-- Over a world that stands still, and that the memory's knowledge fits, what a step teaches agrees with it.
pub step_agrees : (w : World) (p q : Playing) (s t : Point) (x : Step) (a : Answer) → Fits p.knows w → StandsAs w s → Stands p s t x a q → Agree p.knows q.knows
step_agrees w p q s t x a fits still st =
    agrees p.knows q.knows still.now (fits_now p.knows w still.now still.same.tree fits) (subst (λ o. Learns o p.knows q.knows) still.told (step_learns p s t x a q st))
