-- Joining: a run from where another ends is one run with it; and a list of steps that read keeps the tree and the bytes.
use Rattle.std.proofs.Common.{◌≡◌, ◌≤◌, ◌<◌, ◌+◌, ◌⊎◌, inl, inr, ℕ, Bool, true, not, List, [], ◌∷◌, ◌++◌, map, length, take, drop, get_or, Option, Some, is_some, Result, Ok, Err, refl, sym, ap, subst, ◌∙◌, arith, append_assoc, append-nil, add-one, drop-cons}
use Rattle.dav_io.specs.Counts.{Rose}
use Rattle.std.proofs.lemmas.List.{take-append-drop, take_more}
use Rattle.std.specs.List.{AllByRecursion}
use Rattle.dav_io.proofs.ToldLemmas.{both_map, both_same, both_then}
use Rattle.dav_io.proofs.Cases.{some_of}
use Rattle.dav_io.specs.declared.failure.NoMemory.{NoMemory}
use Rattle.dav_core.specs.declared.time.FileTime.{FileTime}
use Rattle.dav_core.specs.Unchanged.{SameBesidesOpens}
use Rattle.dav_core.proofs.UnchangedLemmas.{put_same, same_besides, same_besides_then}
use Rattle.dav_core.specs.declared.method.DavMethod.{DavMethod}
use Rattle.dav_core.specs.declared.method.DavMethod.TheVariants as writing
use Rattle.dav_core.specs.Path.{Names}
use Rattle.dav_core.specs.World.{World}
use Rattle.dav_model.specs.declared.step.Step.{Step}
use Rattle.dav_model.specs.declared.step.Step.TheVariants.{Request, Poll, Abandon, Purge, Turn}
use Rattle.dav_model.specs.declared.target.Target.{Target}
use Rattle.dav_model.specs.declared.target.Target.TheVariants.{At, Methods, Refused, Writes}
use Rattle.dav_model.specs.Calls.{AsksAtGate}
use Rattle.dav_model.specs.declared.answer.Answer.{Answer}
use Rattle.dav_model.specs.Bodies.{Polls, read_size_of}
use Rattle.dav_model.specs.Folds.{Name, has_name}
use Rattle.dav_model.specs.Rules.{Rules, Knowledge, Learns, Forgets, WasKnown, ShowsNames, SameDots}
use Rattle.dav_model.specs.Head.{Reply}
use Rattle.dav_model.specs.Plans.{Act, Ask, does, halts, plan}
use Rattle.http.specs.Request.{body_of}
use Rattle.dav_model.specs.Conditions.{Fields, fields_of}
use Rattle.dav_model.specs.Written.{Makes, MakesAs, PartOf, ask_of}
use Rattle.dav_model.specs.Trail.{Point, Move, Goes, Leaves, is_writing, step_leaves, target_of, last_of, steps_of, answers_of, points_of}
use Rattle.dav_model.specs.Valid.{IsRegular, Valid, Occurs}
use Rattle.dav_model.specs.Play.{AreFull, AsksUnanswered, MakesUnanswered, Playing, Stage, Stands, Stepped, TellsOpen, Plays, Ends, Played, Learned}

-- ---- lists

pub last_joined : (s : Point) (xs ys : List Move) → last_of s (xs ++ ys) ≡ last_of (last_of s xs) ys
last_joined s [] ys = refl
last_joined s (x ∷ xs) ys = last_joined x.to xs ys

pub maps_join : {B : Type 0} (f : Move → B) (xs ys : List Move) → map f (xs ++ ys) ≡ map f xs ++ map f ys
maps_join f [] ys = refl
maps_join f (x ∷ xs) ys = ap (λ z. f x ∷ z) (maps_join f xs ys)

pub all_split : (P : Point → Type 0) (ss ts : List Point) → AllByRecursion P (ss ++ ts) → AllByRecursion P ss × AllByRecursion P ts
all_split P [] ts all = (tt, all)
all_split P (s ∷ ss) ts all = let r = all_split P ss ts all.1 in ((all.0, r.0), r.1)

last_all : (P : Point → Type 0) (s : Point) (xs : List Move) → AllByRecursion P (s ∷ points_of xs) → P (last_of s xs)
last_all P s [] all = all.0
last_all P s (x ∷ xs) all = last_all P x.to xs all.1

occurs_front : (w : World) (ss ts : List Point) → Occurs w ss → Occurs w (ss ++ ts)
occurs_front w (s ∷ ss) ts (inl e) = inl e
occurs_front w (s ∷ ss) ts (inr o) = inr (occurs_front w ss ts o)
occurs_front w [] ts o = absurd o

occurs_back : (w : World) (ss ts : List Point) → Occurs w ts → Occurs w (ss ++ ts)
occurs_back w [] ts o = o
occurs_back w (s ∷ ss) ts o = inr (occurs_back w ss ts o)

occurs_last : (w : World) (s : Point) (xs : List Move) → (last_of s xs).told ≡ Some w → Occurs w (s ∷ points_of xs)
occurs_last w s [] e = inl e
occurs_last w s (x ∷ xs) e = inr (occurs_last w x.to xs e)

-- ---- what is known

pub same_dots_then : (a b c : Name → Bool) → SameDots a b → SameDots b c → SameDots a c
same_dots_then a b c p q x dot = p x dot ∙ q x dot

pub learned_none : (points : List Point) (k : Knowledge) → Learned points k k
learned_none points k = record { open_same = λ dir time. refl; known = λ dir time has e. inl (has, e, λ x dot. refl) }

was_then : (points : List Point) (k l : Knowledge) (dir : Names) (time : FileTime) (has : Name → Bool) → Learned points k l
    → WasKnown l dir time has → WasKnown k dir time has ⊎ ((w : World) × Occurs w points × ShowsNames w dir time has)
was_then points k l dir time has learned (had, e, same) = or_before (learned.known dir time had e)
  where
    or_before : WasKnown k dir time had ⊎ ((w : World) × Occurs w points × ShowsNames w dir time had)
        → WasKnown k dir time has ⊎ ((w : World) × Occurs w points × ShowsNames w dir time has)
    or_before (inl (first, f, same')) = inl (first, f, same_dots_then has had first same same')
    or_before (inr (w, o, names)) = inr (w, o, λ clear. let shown = names clear in record { there = shown.there; names = same_dots_then has had (has_name w.tree dir) same shown.names })

learns_occurs : (s : Point) (k l : Knowledge) → is_some s.told ≡ true → Learns s.told k l → Learned (s ∷ []) k l
learns_occurs s k l told learns = let (w, e) = some_of s.told told in record {
  open_same = learns.open_same;
  known = λ dir time has f. elim (learns.known dir time has f) [ inl was ↦ inl was | inr names ↦ inr (w, inl e, names w e) ];
}

learned_then : (ss ts all : List Point) (k l m : Knowledge) → ((w : World) → Occurs w ss → Occurs w all) → ((w : World) → Occurs w ts → Occurs w all)
    → Learned ss k l → Learned ts l m → Learned all k m
learned_then ss ts all k l m front back p q = record {
  open_same = λ dir time. q.open_same dir time ∙ p.open_same dir time;
  known = λ dir time has e. elim (q.known dir time has e) [
    | inl was ↦ elim (was_then ss k l dir time has p was) [ inl first ↦ inl first | inr (w, o, names) ↦ inr (w, front w o, names) ]
    | inr (w, o, names) ↦ inr (w, back w o, names)
  ];
}

pub learns_same : (told : Option World) (k l : Knowledge) → l ≡ k → Learns told k l
learns_same told k l e = rw e (record { open_same = λ dir time. refl; known = λ dir time has f. inl (has, f, λ x dot. refl) })

learns_forgets : (told : Option World) (k l m : Knowledge) → m ≡ l → Forgets k l → Learns told k m
learns_forgets told k l m e f = rw e (record { open_same = f.open_same; known = λ dir time has g. inl (f.known dir time has g) })

-- each step says what the memory learns by it
pub step_learns : (p : Playing) (s t : Point) (x : Step) (a : Answer) (q : Playing) → Stands p s t x a q → Learns s.told p.knows q.knows
step_learns p s t (Request request now) a q st = subst (Learns s.told p.knows) (sym (ap (λ (z : Playing). z.knows) st.gets.is)) st.learns
step_learns p s t (Poll body) a q st = learns_same s.told p.knows q.knows (ap (λ (z : Playing). z.knows) st.gets.is)
step_learns p s t (Abandon body) a q (quiet, same, live, gets) = learns_same s.told p.knows q.knows (ap (λ (z : Playing). z.knows) gets.is)
step_learns p s t (Purge now) a q (d, same, (k, is, f)) = learns_forgets s.told p.knows k q.knows (ap (λ (z : Playing). z.knows) is) f
step_learns p s t Turn a q (d, turned, live, is) = learns_same s.told p.knows q.knows (ap (λ (z : Playing). z.knows) is)

pub step_rules : (p : Playing) (s t : Point) (x : Step) (a : Answer) (q : Playing) → Stands p s t x a q → q.rules ≡ p.rules
step_rules p s t (Request request now) a q st = ap (λ (z : Playing). z.rules) st.gets.is
step_rules p s t (Poll body) a q st = ap (λ (z : Playing). z.rules) st.gets.is
step_rules p s t (Abandon body) a q (quiet, same, live, gets) = ap (λ (z : Playing). z.rules) gets.is
step_rules p s t (Purge now) a q (d, same, (k, is, f)) = ap (λ (z : Playing). z.rules) is
step_rules p s t Turn a q (d, turned, live, is) = ap (λ (z : Playing). z.rules) is

-- What is known at the end of a trail was known at its start, or one of its worlds has it.
pub learned_on : (p : Playing) (s : Point) (xs : List Move) (q : Playing) → Plays p s xs q
    → AllByRecursion (λ (t : Point). is_some t.told ≡ true) (s ∷ points_of xs) → Learned (s ∷ points_of xs) p.knows q.knows
learned_on p s [] q e told = subst (λ (z : Playing). Learned (s ∷ []) p.knows z.knows) (sym e) (learned_none (s ∷ []) p.knows)
learned_on p s (x ∷ xs) q (m, st, o, rest) told =
    learned_then (s ∷ []) (x.to ∷ points_of xs) (s ∷ (x.to ∷ points_of xs)) p.knows m.knows q.knows
    (occurs_front_of s (x.to ∷ points_of xs)) (λ w o'. inr o')
    (learns_occurs s p.knows m.knows told.0 (step_learns p s x.to x.step x.answer m st))
    (learned_on m x.to xs q rest told.1)
  where
    occurs_front_of : (a : Point) (ts : List Point) (w : World) → Occurs w (a ∷ []) → Occurs w (a ∷ ts)
    occurs_front_of a ts w (inl e) = inl e
    occurs_front_of a ts w (inr o') = absurd o'

-- ---- validity

-- A part of a valid trail is valid, with the memory that was reached before it.
valid_within : (rules : Rules) (k l : Knowledge) (all before part : List Point) → Valid rules k all
    → ((w : World) → Occurs w before → Occurs w all) → ((w : World) → Occurs w part → Occurs w all)
    → AllByRecursion (λ (t : Point). is_some t.told ≡ true) part → Learned before k l → Valid rules l part
valid_within rules k l all before part v first within told learned = record {
  told = told;
  apart = λ folds w o. v.apart folds w (within w o);
  times = λ macos a b o o'. v.times macos a b (within a o) (within b o');
  links = λ macos a b o o'. v.links macos a b (within a o) (within b o');
  sound = λ macos w o. record {
    closed = λ dir time e. learned.open_same dir time ∙ (v.sound macos w (within w o)).closed dir time e;
    names = λ dir time has e f. elim (learned.known dir time has f) [
      | inl (had, g, same) ↦ same_dots_then has had (has_name w.tree dir) same ((v.sound macos w (within w o)).names dir time had e g)
      | inr (u, o', names) ↦ (let shown = names (v.links macos u w (first u o') (within w o) dir time e) in
          same_dots_then has (has_name u.tree dir) (has_name w.tree dir) shown.names (λ x dot. v.times macos u w (first u o') (within w o) dir time shown.there e x))
    ];
  };
}

pub valid_front : (rules : Rules) (k : Knowledge) (s : Point) (xs ys : List Move) → Valid rules k (s ∷ points_of (xs ++ ys)) → Valid rules k (s ∷ points_of xs)
valid_front rules k s xs ys v =
    let w : Valid rules k (s ∷ (points_of xs ++ points_of ys)) = subst (λ z. Valid rules k (s ∷ z)) (maps_join (λ (x : Move). x.to) xs ys) v in
    valid_within rules k k (s ∷ (points_of xs ++ points_of ys)) (s ∷ points_of xs) (s ∷ points_of xs) w
    (λ u. occurs_front u (s ∷ points_of xs) (points_of ys)) (λ u. occurs_front u (s ∷ points_of xs) (points_of ys))
    (all_split _ (s ∷ points_of xs) (points_of ys) w.told).0 (learned_none (s ∷ points_of xs) k)

pub valid_back : (rules : Rules) (k l : Knowledge) (s : Point) (xs ys : List Move) → Valid rules k (s ∷ points_of (xs ++ ys)) → Learned (s ∷ points_of xs) k l
    → Valid rules l (last_of s xs ∷ points_of ys)
valid_back rules k l s xs ys v learned =
    let w : Valid rules k (s ∷ (points_of xs ++ points_of ys)) = subst (λ z. Valid rules k (s ∷ z)) (maps_join (λ (x : Move). x.to) xs ys) v in
    let told = all_split _ (s ∷ points_of xs) (points_of ys) w.told in
    valid_within rules k l (s ∷ (points_of xs ++ points_of ys)) (s ∷ points_of xs) (last_of s xs ∷ points_of ys) w
    (λ u. occurs_front u (s ∷ points_of xs) (points_of ys)) (behind s xs ys) (last_all _ s xs told.0, told.1) learned
  where
    behind : (s : Point) (xs ys : List Move) (u : World) → Occurs u (last_of s xs ∷ points_of ys) → Occurs u (s ∷ (points_of xs ++ points_of ys))
    behind s xs ys u (inl e) = occurs_front u (s ∷ points_of xs) (points_of ys) (occurs_last u s xs e)
    behind s xs ys u (inr o) = occurs_back u (s ∷ points_of xs) (points_of ys) o

-- ---- runs

-- A run of steps at which no memory was refused ends where its trail leads, with no step left.
pub record Over (rest : List Step) (m b : Stage) : Type 0 where
  pub none : rest ≡ []
  pub at : b ≡ m

pub over : (rest : List Step) (m b : Stage) → Ends (Ok tt) rest m b → Over rest m b
over [] m b e = record { none = refl; at = e }
over (x ∷ rest) m b e = absurd e

-- two trails, the second from the end of the first
pub plays_join : (p m q : Playing) (s : Point) (xs ys : List Move) → Plays p s xs m → Plays m (last_of s xs) ys q → Plays p s (xs ++ ys) q
plays_join p m q s [] ys e b = rw (← e) b
plays_join p m q s (x ∷ xs) ys (n, st, o, rest) b = (n, st, o, plays_join n m q x.to xs ys rest b)

join : (xs ys : List Move) (a m b : Stage) (steps steps' : List Step) (old new new' : List Answer) (result : Result Unit NoMemory)
    (rest rest' : List Step) (player player' : Playing)
    → steps ≡ steps_of xs ++ rest → new ≡ old ++ answers_of xs → TellsOpen a.at a.playing → AreFull a.playing → Plays a.playing a.at xs player
    → Ends (Ok tt) rest (record { at = last_of a.at xs; playing = player }) m
    → steps' ≡ steps_of ys ++ rest' → new' ≡ [] ++ answers_of ys → Plays m.playing m.at ys player'
    → Ends result rest' (record { at = last_of m.at ys; playing = player' }) b
    → Played (xs ++ ys) a (steps ++ steps') old (new ++ new') result b
join xs ys a m b steps steps' old new new' result (z ∷ rest) rest' player player' e f held full plays ends e' f' plays' ends' = elim ends [ ]
join xs ys a m b steps steps' old new new' result [] rest' player player' e f held full plays ends e' f' plays' ends' =
    let at : Stage → Type 0 = λ z. Plays z.playing z.at ys player' × Ends result rest' (record { at = last_of z.at ys; playing = player' }) b in
    let (second, end) = subst at ends (plays', ends') in
    record {
      rest = rest';
      player = player';
      steps_are = ap (λ z. z ++ steps') (e ∙ append-nil (steps_of xs)) ∙ ap (λ z. steps_of xs ++ z) e' ∙ sym (append_assoc (steps_of xs) (steps_of ys) rest')
          ∙ ap (λ z. z ++ rest') (sym (maps_join (λ (x : Move). x.step) xs ys));
      answers_are = ap (λ z. z ++ new') f ∙ ap (λ z. (old ++ answers_of xs) ++ z) f' ∙ append_assoc old (answers_of xs) (answers_of ys)
          ∙ ap (λ z. old ++ z) (sym (maps_join (λ (x : Move). x.answer) xs ys));
      held = held;
      full = full;
      answered = plays_join a.playing player player' a.at xs ys plays second;
      ends = subst (λ z. Ends result rest' (record { at = z; playing = player' }) b) (sym (last_joined a.at xs ys)) end;
    }

-- Two runs, the second from where the first ends, are one run along the joined trail. The first had no want of memory.
pub played_join : (xs ys : List Move) (a m b : Stage) (steps steps' : List Step) (old new new' : List Answer) (result : Result Unit NoMemory)
    → Played xs a steps old new (Ok tt) m → Played ys m steps' [] new' result b → Played (xs ++ ys) a (steps ++ steps') old (new ++ new') result b
played_join xs ys a m b steps steps' old new new' result x y = join xs ys a m b steps steps' old new new' result x.rest y.rest x.player y.player
    x.steps_are x.answers_are x.held x.full x.answered x.ends y.steps_are y.answers_are y.answered y.ends

-- The same, where the second run's answers go on from those of the first.
pub played_on_from : (xs ys : List Move) (a m b : Stage) (steps more : List Step) (old mid new : List Answer) (result : Result Unit NoMemory)
    → Played xs a steps old mid (Ok tt) m → Played ys m more mid new result b → Played (xs ++ ys) a (steps ++ more) old new result b
played_on_from xs ys a m b steps more old mid new result x y =
    subst (λ z. Played (xs ++ ys) a (steps ++ more) old z result b) (sym y.answers_are)
    (join xs ys a m b steps more old mid (answers_of ys) result x.rest y.rest x.player y.player
    x.steps_are x.answers_are x.held x.full x.answered x.ends y.steps_are refl y.answered y.ends)

-- ---- reading

-- what is asked for changes nothing, unless it writes
reads_keep : (target : Target) (rules : Rules) (k : Knowledge) (fields : Fields) (body : List ℕ) (result : Result Reply NoMemory) (s t : Point) → not (is_writing target) ≡ true
    → Makes target rules k fields body result s t → Leaves s t
reads_keep (Writes method path) rules k fields body result s t e makes = cc
reads_keep (At method path) rules k fields body result s t e makes = makes
reads_keep Methods rules k fields body result s t e makes = makes
reads_keep (Refused status close) rules k fields body result s t e makes = makes

pub step_keeps : (p q : Playing) (s t : Point) (x : Step) (a : Answer) → step_leaves p.rules x ≡ true → Stands p s t x a q → Leaves s t
step_keeps p q s t (Request request now) a e x = reads_keep (target_of p.rules request) p.rules p.knows (fields_of request) (body_of request) (Ok x.reply) s t e x.makes
step_keeps p q s t (Poll body) a e x = x.leaves
step_keeps p q s t (Abandon body) a e (quiet, same, live, gets) = same
step_keeps p q s t (Purge now) a e (d, same, x) = both_same s.told t.told SameBesidesOpens same_besides (ap (λ (z : Point). z.told) same)
step_keeps p q s t Turn a e x = cc

-- A list of steps without a turn of the outside, and without a request that writes, leaves the tree, the bytes and the script.
pub reading_keeps : (p q : Playing) (s : Point) (xs : List Move) → AllByRecursion (λ (x : Move). step_leaves p.rules x.step ≡ true) xs
    → Plays p s xs q → Leaves s (last_of s xs)
reading_keeps p q s [] all plays = both_same s.told s.told SameBesidesOpens same_besides refl
reading_keeps p q s (x ∷ xs) all (m, st, o, rest) = both_then s.told x.to.told (last_of x.to xs).told _ _ _ same_besides_then
    (step_keeps p m s x.to x.step x.answer all.0 st)
    (reading_keeps m q x.to xs (subst (λ r. AllByRecursion (λ (x : Move). step_leaves r x.step ≡ true) xs) (sym (step_rules p s x.to x.step x.answer m st)) all.1) rest)

-- ---- what is known at exit, along the same trail, at want of memory too

ends_learned : (result : Result Unit NoMemory) (rest : List Step) (m b : Stage) (points : List Point) (k : Knowledge) → Ends result rest m b → is_some m.at.told ≡ true
    → ((w : World) → Occurs w (m.at ∷ []) → Occurs w points) → Learned points k m.playing.knows → Learned points k b.playing.knows
ends_learned (Ok x) [] m b points k ends told within learned = subst (λ (z : Stage). Learned points k z.playing.knows) (sym ends) learned
ends_learned (Ok x) (step ∷ steps) m b points k ends told within learned = elim ends [ ]
ends_learned (Err e) [] m b points k ends told within learned = elim ends [ ]
ends_learned (Err e) (step ∷ steps) m b points k ends told within learned =
    subst (Learned points k) (sym (ap (λ (z : Playing). z.knows) ends.is))
    (learned_then points (m.at ∷ []) points k m.playing.knows ends.knows (λ w o. o) within learned (learns_occurs m.at m.playing.knows ends.knows told ends.learns))

pub played_learned : (trail : List Move) (a b : Stage) (steps : List Step) (old new : List Answer) (result : Result Unit NoMemory) → Played trail a steps old new result b
    → AllByRecursion (λ (t : Point). is_some t.told ≡ true) (a.at ∷ points_of trail) → Learned (a.at ∷ points_of trail) a.playing.knows b.playing.knows
played_learned trail a b steps old new result x told =
    ends_learned result x.rest (record { at = last_of a.at trail; playing = x.player }) b (a.at ∷ points_of trail) a.playing.knows x.ends (last_all _ a.at trail told)
    (λ w o. occurs_one w o) (learned_on a.playing a.at trail x.player x.answered told)
  where
    occurs_one : (w : World) → Occurs w (last_of a.at trail ∷ []) → Occurs w (a.at ∷ points_of trail)
    occurs_one w (inl e) = occurs_last w a.at trail e
    occurs_one w (inr o) = absurd o

-- ---- step by step

-- nothing was played so far
pub none_played : (a : Stage) (steps : List Step) (old : List Answer) → TellsOpen a.at a.playing → AreFull a.playing → steps ≡ [] → Played [] a steps old old (Ok tt) a
none_played a steps old held full none = record {
  rest = [];
  player = a.playing;
  steps_are = none;
  answers_are = sym (append-nil old);
  held = held;
  full = full;
  answered = refl;
  ends = refl;
}

-- one more step, which was answered
pub one_more_played : (xs : List Move) (a m b : Stage) (steps : List Step) (step : Step) (old new : List Answer) (answer : Answer)
    → Played xs a steps old new (Ok tt) m → Stepped m step (Ok answer) b
    → Played (xs ++ record { step = step; answer = answer; to = b.at } ∷ []) a (steps ++ step ∷ []) old (new ++ answer ∷ []) (Ok tt) b
one_more_played xs a m b steps step old new answer x (st, held) =
    join xs (record { step = step; answer = answer; to = b.at } ∷ []) a m b steps (step ∷ []) old new (answer ∷ []) (Ok tt) x.rest [] x.player b.playing
    x.steps_are x.answers_are x.held x.full x.answered x.ends refl refl (b.playing, st, held, refl) refl

-- one more step, which was refused memory, and the steps behind it
pub refused_played : (xs : List Move) (a m b : Stage) (steps : List Step) (step : Step) (later : List Step) (old new : List Answer) (e : NoMemory)
    → Played xs a steps old new (Ok tt) m → Stepped m step (Err e) b → Played xs a (steps ++ step ∷ later) old new (Err e) b
refused_played xs a m b steps step later old new e x refuses = by_rest x.rest x.steps_are x.ends
  where
    by_rest : (rest : List Step) → steps ≡ steps_of xs ++ rest → Ends (Ok tt) rest (record { at = last_of a.at xs; playing = x.player }) m → Played xs a (steps ++ step ∷ later) old new (Err e) b
    by_rest [] are ends = record {
      rest = step ∷ later;
      player = x.player;
      steps_are = ap (λ z. z ++ step ∷ later) (are ∙ append-nil (steps_of xs));
      answers_are = x.answers_are;
      held = x.held;
      full = x.full;
      answered = x.answered;
      ends = subst (λ (z : Stage). Stepped z step (Err e) b) ends refuses;
    }
    by_rest (z ∷ rest) are ends = elim ends [ ]

stays_goes : (s : Point) → Goes s s
stays_goes s = record { faults = omega arith; asked = omega arith; whole = λ w. w; listers = refl }

-- a gate that asked nothing
pub gate_none : (target : Target) (n : ℕ) → AsksAtGate target n n
gate_none (Refused status close) n = refl
gate_none Methods n = refl
gate_none (At method path) n = tt
gate_none (Writes method path) n = tt

asks_none : (rules : Rules) (step : Step) (n : ℕ) → AsksUnanswered rules step n n
asks_none rules (Request request now) n = gate_none (target_of rules request) n
asks_none rules (Poll body) n = refl
asks_none rules (Abandon body) n = refl
asks_none rules (Purge now) n = refl
asks_none rules Turn n = refl

-- nothing of a plan was made
pub part_none : (acts : List Act) (v w : World) → SameBesidesOpens v w → PartOf acts v w
part_none [] v w same = same
part_none (halts l ∷ acts) v w same = same
part_none (does e ∷ acts) v w same = inl same

pub leaves_same : (s : Point) → Leaves s s
leaves_same s = both_same s.told s.told SameBesidesOpens same_besides refl

kept_as : (m : DavMethod) (rules : Rules) (ask : Ask) (e : NoMemory) (rose : Type 0) (v w : World) → SameBesidesOpens v w → MakesAs m rules ask (Err e) rose v w
kept_as writing.Copy rules ask e rose v w same = inl same
kept_as writing.Move rules ask e rose v w same = inl same
kept_as other rules ask e rose v w same = λ clear. part_none (plan rules v ask).acts v w same

-- Where nothing changed, nothing of a plan was made.
pub makes_kept : (target : Target) (rules : Rules) (k : Knowledge) (fields : Fields) (body : List ℕ) (e : NoMemory) (s t : Point) → Leaves s t → Makes target rules k fields body (Err e) s t
makes_kept (Writes method path) rules k fields body e s t leaves =
    both_map s.told t.told SameBesidesOpens (λ v w. IsRegular rules k v → MakesAs method rules (ask_of method path fields body) (Err e) (Rose s.faults t.faults) v w)
    (λ v w same regular. kept_as method rules (ask_of method path fields body) e (Rose s.faults t.faults) v w same) leaves
makes_kept (At method path) rules k fields body e s t leaves = leaves
makes_kept Methods rules k fields body e s t leaves = leaves
makes_kept (Refused status close) rules k fields body e s t leaves = leaves

makes_unanswered : (rules : Rules) (k : Knowledge) (step : Step) (e : NoMemory) (s : Point) → MakesUnanswered rules k step e s s
makes_unanswered rules k (Request request now) e s = makes_kept (target_of rules request) rules k (fields_of request) (body_of request) e s s (leaves_same s)
makes_unanswered rules k (Poll body) e s = leaves_same s
makes_unanswered rules k (Abandon body) e s = leaves_same s
makes_unanswered rules k (Purge now) e s = leaves_same s
makes_unanswered rules k Turn e s = (leaves_same s, refl)

-- a step that was not begun leaves all as it was
pub not_begun : (m : Stage) (step : Step) (e : NoMemory) → TellsOpen m.at m.playing → Stepped m step (Err e) m
not_begun m step e held = record {
  goes = stays_goes m.at;
  makes = λ f. makes_unanswered m.playing.rules m.playing.knows step f m.at;
  live = refl;
  knows = m.playing.knows;
  learns = learns_same m.at.told m.playing.knows m.playing.knows refl;
  is = refl;
  held = held;
  asks = asks_none m.playing.rules step m.at.asked;
}

-- the steps, cut at one
cut_at : (xs : List Step) (i : ℕ) (x : Step) → i < length xs → x ≡ get_or xs i x → take i xs ++ x ∷ drop (i + 1) xs ≡ xs
cut_at xs i x lt e = ap (λ y. take i xs ++ y ∷ drop (i + 1) xs) e ∙ ap (λ ys. take i xs ++ ys) (rw add-one (sym (drop-cons xs i x lt))) ∙ take-append-drop i xs

-- the step at i was refused memory
pub refused_at : (xs : List Move) (a m b : Stage) (x : Step) (steps : List Step) (i : ℕ) (old mid new : List Answer) (e : NoMemory)
    → Played xs a (take i steps) old mid (Ok tt) m → i < length steps → x ≡ get_or steps i x → new ≡ mid → Stepped m x (Err e) b
    → Played xs a steps old new (Err e) b
refused_at xs a m b x steps i old mid new e played lt at same stepped =
    subst (λ z. Played xs a steps old z (Err e) b) (sym same)
    (subst (λ z. Played xs a z old mid (Err e) b) (cut_at steps i x lt at)
    (refused_played xs a m b (take i steps) x (drop (i + 1) steps) old mid e played stepped))

-- the step at i was answered
pub answered_at : (xs : List Move) (a m b : Stage) (x : Step) (answer : Answer) (steps : List Step) (i : ℕ) (old mid new : List Answer)
    → Played xs a (take i steps) old mid (Ok tt) m → i < length steps → x ≡ get_or steps i x → new ≡ mid ++ answer ∷ [] → Stepped m x (Ok answer) b
    → Played (xs ++ record { step = x; answer = answer; to = b.at } ∷ []) a (take (i + 1) steps) old new (Ok tt) b
answered_at xs a m b x answer steps i old mid new played lt at same stepped =
    subst (λ z. Played (xs ++ record { step = x; answer = answer; to = b.at } ∷ []) a (take (i + 1) steps) old z (Ok tt) b) (sym same)
    (subst (λ z. Played (xs ++ record { step = x; answer = answer; to = b.at } ∷ []) a z old (mid ++ answer ∷ []) (Ok tt) b)
    (ap (λ y. take i steps ++ y ∷ []) at ∙ sym (take_more steps i x lt))
    (one_more_played xs a m b (take i steps) x old mid answer played stepped))

-- a step gives one reply at most
pub replies_grow : (p q : Playing) (s t : Point) (x : Step) (a : Answer) → Stands p s t x a q → q.replies ≤ p.replies + 1
replies_grow p q s t (Request request now) a st = let e = ap (λ (z : Playing). z.replies) st.gets.is in omega arith
replies_grow p q s t (Poll body) a st = let e = ap (λ (z : Playing). z.replies) st.gets.is in omega arith
replies_grow p q s t (Abandon body) a (quiet, same, live, gets) = let e = ap (λ (z : Playing). z.replies) gets.is in omega arith
replies_grow p q s t (Purge now) a (d, same, (k, is, f)) = let e = ap (λ (z : Playing). z.replies) is in omega arith
replies_grow p q s t Turn a (d, turned, live, is) = let e = ap (λ (z : Playing). z.replies) is in omega arith

-- ---- counts

step_goes : (p q : Playing) (s t : Point) (x : Step) (a : Answer) → Stands p s t x a q → Goes s t
step_goes p q s t (Request request now) a st = st.goes
step_goes p q s t (Poll body) a st = st.goes
step_goes p q s t (Abandon body) a (quiet, same, live, gets) = quiet.goes
step_goes p q s t (Purge now) a (d, same, x) = subst (Goes s) (sym same) (stays_goes s)
step_goes p q s t Turn a (quiet, turned, live, is) = quiet.goes

plays_counts : (p q : Playing) (s : Point) (xs : List Move) → Plays p s xs q → s.faults ≤ (last_of s xs).faults
plays_counts p q s [] e = omega arith
plays_counts p q s (x ∷ xs) (m, st, o, rest) =
    let c = (step_goes p m s x.to x.step x.answer st).faults in
    let d = plays_counts m q x.to xs rest in
    omega arith

counts_of : (a : Stage) (n : ℕ) (rest : List Step) (m b : Stage) → n ≤ m.at.faults → Ends (Ok tt) rest m b → n ≤ b.at.faults
counts_of a n [] m b le e = subst (λ (z : Stage). n ≤ z.at.faults) (sym e) le
counts_of a n (x ∷ rest) m b le e = elim e [ ]

-- the count of faults never falls
pub played_counts : (xs : List Move) (a b : Stage) (steps : List Step) (old new : List Answer) → Played xs a steps old new (Ok tt) b → a.at.faults ≤ b.at.faults
played_counts xs a b steps old new x =
    counts_of a a.at.faults x.rest (record { at = last_of a.at xs; playing = x.player }) b (plays_counts a.playing x.player a.at xs x.answered) x.ends

-- ---- runs of two steps

-- a run of two steps, one after the other
pub record TwoSteps (a : Stage) (x y : Step) (first second : Answer) (b : Stage) : Type 0 where
  pub mid : Stage
  pub one : Stands a.playing a.at mid.at x first mid.playing
  pub two : Stands mid.playing mid.at b.at y second b.playing
  pub counts : a.at.faults ≤ mid.at.faults

steps_two : (xs : List Move) (x y : Step) → x ∷ y ∷ [] ≡ steps_of xs → (m n : Move) × (xs ≡ m ∷ n ∷ []) × (m.step ≡ x) × (n.step ≡ y)
steps_two [] x y e = cc
steps_two (m ∷ []) x y e = cc
steps_two (m ∷ n ∷ []) x y e = (m, n, refl, cc, cc)
steps_two (m ∷ n ∷ (o ∷ xs)) x y e = cc

two_of : (a b : Stage) (q : Playing) (m n : Move) → Plays a.playing a.at (m ∷ n ∷ []) q → b ≡ record { at = n.to; playing = q } → TwoSteps a m.step n.step m.answer n.answer b
two_of a b q m n (k, first, o, (l, second, u, is)) e =
    subst (λ z. TwoSteps a m.step n.step m.answer n.answer z) (sym e) (record {
      mid = record { at = m.to; playing = k };
      one = first;
      two = subst (λ z. Stands k m.to n.to n.step n.answer z) (sym is) second;
      counts = (step_goes a.playing k a.at m.to m.step m.answer first).faults;
    })

pub two_steps : (trail : List Move) (a : Stage) (x y : Step) (first second : Answer) (b : Stage) → Played trail a (x ∷ y ∷ []) [] (first ∷ second ∷ []) (Ok tt) b → TwoSteps a x y first second b
two_steps trail a x y first second b played =
    let end = over played.rest (record { at = last_of a.at trail; playing = played.player }) b played.ends in
    let steps : x ∷ y ∷ [] ≡ steps_of trail = played.steps_are ∙ ap (λ z. steps_of trail ++ z) end.none ∙ append-nil (steps_of trail) in
    let (m, n, is, one, two) = steps_two trail x y steps in
    let answers : first ∷ second ∷ [] ≡ m.answer ∷ n.answer ∷ [] = played.answers_are ∙ ap answers_of is in
    let plays : Plays a.playing a.at (m ∷ n ∷ []) played.player = subst (λ z. Plays a.playing a.at z played.player) is played.answered in
    let stage : b ≡ record { at = n.to; playing = played.player } = end.at ∙ ap (λ z. record { at = last_of a.at z; playing = played.player }) is in
    let both = two_of a b played.player m n plays stage in
    let f : m.answer ≡ first = cc in
    let g : n.answer ≡ second = cc in
    subst (λ z. TwoSteps a z y first second b) one (subst (λ z. TwoSteps a m.step z first second b) two
    (subst (λ z. TwoSteps a m.step n.step z second b) f (subst (λ z. TwoSteps a m.step n.step m.answer z b) g both)))

-- a turn and a poll: what the poll says of the body
pub record PollSays (a : Stage) (body : ℕ) (answer : Answer) (b : Stage) : Type 0 where
  pub mid : Point
  pub counts : a.at.faults ≤ mid.faults
  pub polls : Polls mid.told mid.whole (read_size_of a.playing.rules.settings.read_buf_size) (Rose mid.faults b.at.faults) (a.playing.left body) answer (b.playing.left body)

pub poll_says : (trail : List Move) (a : Stage) (body : ℕ) (first second : Answer) (b : Stage) → Played trail a (Turn ∷ Poll body ∷ []) [] (first ∷ second ∷ []) (Ok tt) b → PollSays a body second b
poll_says trail a body first second b played =
    let two = two_steps trail a Turn (Poll body) first second b played in
    let polled = two.two in
    let left : b.playing.left body ≡ polled.rest = ap (λ (z : Playing). z.left body) polled.gets.is ∙ put_same body polled.rest two.mid.playing.left in
    record {
      mid = two.mid.at;
      counts = two.counts;
      polls = rw left (subst (λ (z : Playing). Polls two.mid.at.told two.mid.at.whole (read_size_of z.rules.settings.read_buf_size) (Rose two.mid.at.faults b.at.faults) (z.left body) second polled.rest) two.one.3 polled.gives);
    }
