-- Files that were asked for one after the other were asked for all together.
use Rattle.std.proofs.Common.{◌≡◌, ◌⊎◌, inl, inr, ℕ, zero, suc, ◌+◌, ◌*◌, ◌<◌, ◌≤◌, List, [], ◌∷◌, ◌++◌, length, map, flat_map, Ok, Result, refl, sym, ap, subst, ◌∙◌, arith, add-one, append-nil, append_assoc, length-append}
use Rattle.std.proofs.lemmas.Grind.{flat_map-append}
use Rattle.std.proofs.lemmas.List.{length-map, map-append}
use Rattle.dav_io.specs.declared.failure.NoMemory.{NoMemory}
use Rattle.dav_model.specs.declared.step.Step.{Step}
use Rattle.dav_model.specs.declared.answer.Answer.{Answer}
use Rattle.dav_model.specs.Play.{PlayedOn, Stage}
use Rattle.dav_model.proofs.JoiningLemmas.{played_join}
use Rattle.dav_model.proofs.Denied.{played_on}
use Rattle.dav_bench.specs.declared.counting.Counts.{Counts}
use Rattle.dav_bench.specs.Asking.{AreStepsFor}
use Rattle.dav_bench.specs.Counting.{all_counted, counted}
use Rattle.dav_bench.specs.Running.{AreStepsForAll, AskedFor, Place, place_of, places_below, places_of}
use Rattle.dav_bench.specs.Tree.{upto}

-- ---- places

pub upto_length : (n : ℕ) → length (upto n) ≡ n
unfolding upto
upto_length zero = refl
upto_length (suc n) = length-append (upto n) (n ∷ []) ∙ (ap (λ z. z + 1) (upto_length n) ∙ add-one n)

pub none_of_dir : (i : ℕ) → places_of i 0 ≡ []
unfolding upto
none_of_dir i = refl

pub dir_more : (i j : ℕ) → places_of i j ++ place_of i j ∷ [] ≡ places_of i (j + 1)
unfolding upto
dir_more i j = rw add-one (sym (map-append (place_of i) (upto j) (j ∷ [])))

pub dir_length : (i n : ℕ) → length (places_of i n) ≡ n
dir_length i n = length-map (upto n) (place_of i) ∙ upto_length n

pub none_below_dir : (m : ℕ) → places_below m 0 ≡ []
unfolding upto
none_below_dir m = refl

pub below_more : (m n : ℕ) → places_below m n ++ places_of n m ≡ places_below m (n + 1)
unfolding upto
below_more m n =
    rw add-one (ap (λ z. places_below m n ++ z) (sym (append-nil (places_of n m))) ∙ sym (flat_map-append (λ i. places_of i m) (upto n) (n ∷ [])))

pub below_length : (m n : ℕ) → length (places_below m n) ≡ n * m
below_length m zero = ap length (none_below_dir m) ∙ omega arith
below_length m (suc n) =
    ap (λ z. length (places_below m z)) (sym (add-one n)) ∙ (ap length (sym (below_more m n))
    ∙ (length-append (places_below m n) (places_of n m) ∙ sum_of (length (places_below m n)) (length (places_of n m)) (below_length m n) (dir_length n m)))
  where
    sum_of : (a b : ℕ) → a ≡ n * m → b ≡ m → a + b ≡ suc n * m
    sum_of a b e f = let g : suc n * m ≡ n * m + m = omega arith in omega arith

-- ---- joining

counted_join : (xs ys : List Answer) (c : Counts) → all_counted c (xs ++ ys) ≡ all_counted (all_counted c xs) ys
counted_join [] ys c = refl
counted_join (x ∷ xs) ys c = counted_join xs ys (counted c x)

steps_join : (xs ys : List Place) (n : ℕ) (s t : List Step) → AreStepsForAll xs n s → AreStepsForAll ys (n + length xs) t → AreStepsForAll (xs ++ ys) n (s ++ t)
steps_join [] ys n s t e more =
    subst (λ z. AreStepsForAll ys n (z ++ t)) (sym e) (subst (λ z. AreStepsForAll ys z t) (plus_none n) more)
  where
    plus_none : (n : ℕ) → n + 0 ≡ n
    plus_none n = omega arith
steps_join (x ∷ xs) ys n s t (own, rest, is, here, behind) more =
    (own, rest ++ t, ap (λ z. z ++ t) is ∙ append_assoc own rest t, here, steps_join xs ys (n + 1) rest t behind (subst (λ z. AreStepsForAll ys z t) (next n (length xs)) more))
  where
    next : (n k : ℕ) → n + suc k ≡ (n + 1) + k
    next n k = omega arith

pub asked_then : (xs ys : List Place) (a m b : Stage) (c d e : Counts) → AskedFor xs a m c d → m.playing.replies ≡ a.playing.replies + length xs → AskedFor ys m b d e
    → AskedFor (xs ++ ys) a b c e
asked_then xs ys a m b c d e p same q = record {
  steps = p.steps ++ q.steps;
  answers = p.answers ++ q.answers;
  are = steps_join xs ys a.playing.replies p.steps q.steps p.are (subst (λ z. AreStepsForAll ys z q.steps) same q.are);
  played = played_on (p.played.trail ++ q.played.trail) a (p.steps ++ q.steps) [] (p.answers ++ q.answers) (Ok tt) b
      (played_join p.played.trail q.played.trail a m b p.steps q.steps [] p.answers q.answers (Ok tt) p.played.played q.played.played);
  counted = q.counted ∙ (ap (λ z. all_counted z q.answers) p.counted ∙ sym (counted_join p.answers q.answers c));
}

-- None was asked for yet, or these were.
abbrev pub AskedSoFar : List Place → Stage → Stage → Counts → Counts → Type 0
AskedSoFar places a b old new = ((places ≡ []) × (b ≡ a) × (new ≡ old)) ⊎ AskedFor places a b old new

pub so_far_then : (xs ys : List Place) (a m b : Stage) (c d e : Counts) → AskedSoFar xs a m c d → m.playing.replies ≡ a.playing.replies + length xs → AskedFor ys m b d e
    → AskedFor (xs ++ ys) a b c e
so_far_then xs ys a m b c d e (inl (none, stage, counts)) same q =
    subst (λ z. AskedFor (z ++ ys) a b c e) (sym none) (subst (λ z. AskedFor ys z b c e) stage (subst (λ z. AskedFor ys m b z e) counts q))
so_far_then xs ys a m b c d e (inr p) same q = asked_then xs ys a m b c d e p same q

-- some were asked for
pub some_asked : (xs : List Place) (a b : Stage) (c d : Counts) → 0 < length xs → AskedSoFar xs a b c d → AskedFor xs a b c d
some_asked xs a b c d some (inl (none, stage, counts)) = let e : length xs ≡ 0 = ap length none in absurd (omega arith)
some_asked xs a b c d some (inr p) = p

-- ---- as the loops have it

pub one_asked : (i j body : ℕ) (a : Stage) (given steps : List Step) (old new : List Answer) (result : Result Unit NoMemory) (b : Stage) (c d : Counts) → body ≡ a.playing.replies
    → AreStepsFor i j body steps → given ≡ steps → old ≡ [] → result ≡ Ok tt → PlayedOn a given old new result b → d ≡ all_counted c new → AskedFor (place_of i j ∷ []) a b c d
one_asked i j body a given steps old new result b c d same for_it are none went played counts = record {
  steps = steps;
  answers = new;
  are = (steps, [], sym (append-nil steps), subst (λ z. AreStepsFor i j z steps) same for_it, refl);
  played = subst (λ z. PlayedOn a steps [] new z b) went (subst (λ z. PlayedOn a steps z new result b) none (subst (λ z. PlayedOn a z old new result b) are played));
  counted = counts;
}

pub dir_asked : (i j : ℕ) (a m b : Stage) (c d e : Counts) → AskedSoFar (places_of i j) a m c d → m.playing.replies ≡ a.playing.replies + j → AskedFor (place_of i j ∷ []) m b d e
    → AskedSoFar (places_of i (j + 1)) a b c e
dir_asked i j a m b c d e before same here =
    inr (subst (λ z. AskedFor z a b c e) (dir_more i j)
    (so_far_then (places_of i j) (place_of i j ∷ []) a m b c d e before (same ∙ ap (λ z. a.playing.replies + z) (sym (dir_length i j))) here))

pub below_asked : (m n : ℕ) (a k b : Stage) (c d e : Counts) → AskedSoFar (places_below m n) a k c d → k.playing.replies ≡ a.playing.replies + n * m → AskedFor (places_of n m) k b d e
    → AskedSoFar (places_below m (n + 1)) a b c e
below_asked m n a k b c d e before same here =
    inr (subst (λ z. AskedFor z a b c e) (below_more m n)
    (so_far_then (places_below m n) (places_of n m) a k b c d e before (same ∙ ap (λ z. a.playing.replies + z) (sym (below_length m n))) here))

pub all_of_dir : (i m : ℕ) (a b : Stage) (c d : Counts) → 1 ≤ m → AskedSoFar (places_of i m) a b c d → AskedFor (places_of i m) a b c d
all_of_dir i m a b c d some so_far = let e : length (places_of i m) ≡ m = dir_length i m in some_asked (places_of i m) a b c d (omega arith) so_far

pub all_below : (m : ℕ) (a b : Stage) (c d : Counts) → 1 ≤ m → AskedSoFar (places_below m 8) a b c d → AskedFor (places_below m 8) a b c d
all_below m a b c d some so_far = let e : length (places_below m 8) ≡ 8 * m = below_length m 8 in some_asked (places_below m 8) a b c d (omega arith) so_far

pub twice_asked : (m : ℕ) (a k b : Stage) (c d e : Counts) → AskedFor (places_below m 8) a k c d → k.playing.replies ≡ a.playing.replies + 8 * m → AskedFor (places_below m 8) k b d e
    → AskedFor (places_below m 8 ++ places_below m 8) a b c e
twice_asked m a k b c d e first same second =
    asked_then (places_below m 8) (places_below m 8) a k b c d e first (same ∙ ap (λ z. a.playing.replies + z) (sym (below_length m 8))) second
