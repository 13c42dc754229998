-- What the answers to the steps of files add to the counts.
use Rattle.std.proofs.Common.{◌≡◌, ℕ, zero, suc, ◌+◌, ◌*◌, ◌<◌, ◌≤◌, min, List, [], ◌∷◌, ◌++◌, length, map, flat_map, sum, Ok, Result, refl, sym, ap, ap₂, subst, ◌∙◌, arith, add-one}
use Rattle.std.proofs.lemmas.List.Sums.{sum_by-append}
use Rattle.dav_io.specs.Counts.{greatest, one_more}
use Rattle.dav_io.specs.declared.failure.NoMemory.{NoMemory}
use Rattle.dav_model.specs.declared.step.Step.{Step}
use Rattle.dav_model.specs.declared.answer.Answer.{Answer}
use Rattle.dav_model.specs.declared.answer.Answer.TheVariants.{Reply as Replied, Piece, End}
use Rattle.dav_model.specs.Play.{PlayedOn, Stage}
use Rattle.dav_bench.specs.declared.counting.Counts.{Counts}
use Rattle.dav_bench.specs.Asking.{AreStepsFor, IsReady, IsSpared}
use Rattle.dav_bench.specs.Counting.{HasPlace, added, all_counted, nothing_counted}
use Rattle.dav_bench.specs.Totals.{lengths}
use Rattle.dav_bench.specs.Tree.{length_of, letters, upto}
use Rattle.dav_bench.proofs.Due.{letters_length}
use Rattle.dav_bench.proofs.Moves.{ThreeMoves, three_moves}
use Rattle.dav_bench.proofs.Played.{FileAsked, ReadyOn, file_asked, ready_on}

-- ---- one file

-- what is known when the steps of a file were played
pub record Asked (m i j : ℕ) (a : Stage) (new : List Answer) (b : Stage) : Type 0 where
  pub on : ReadyOn m a b
  pub file : FileAsked i j a.playing.replies [] new

asked_by : (m i j : ℕ) (a : Stage) (steps : List Step) (new : List Answer) (result : Result Unit NoMemory) (b : Stage) → m ≤ 400 → i < 8 → j < m → IsReady m a
    → (s : AreStepsFor i j a.playing.replies steps) → result ≡ Ok tt → IsSpared b → ThreeMoves a s.request a.playing.replies [] new b → Asked m i j a new b
asked_by m i j a steps new result b most it jt ready s went spared moves =
    let on : ReadyOn m a b = ready_on m i j a s.request a.playing.replies [] new b most it jt ready s.asking moves in
    record {
      on = on;
      file = file_asked m i j a s.request a.playing.replies [] new b most it jt ready s.asking refl (spared on.ready.world on.ready.told on.ready.bench.room) moves;
    }

pub asked_well : (m i j : ℕ) (a : Stage) (steps : List Step) (new : List Answer) (result : Result Unit NoMemory) (b : Stage) → m ≤ 400 → i < 8 → j < m → IsReady m a
    → AreStepsFor i j a.playing.replies steps → result ≡ Ok tt → IsSpared b → PlayedOn a steps [] new result b → Asked m i j a new b
asked_well m i j a steps new result b most it jt ready s went spared played =
    asked_by m i j a steps new result b most it jt ready s went spared
    (three_moves a s.request s.now a.playing.replies [] new result b went (subst (λ z. PlayedOn a z [] new result b) s.are played))

length_small : (m i j : ℕ) → m ≤ 400 → i < 8 → j < m → length_of i j ≤ 480
length_small m i j most it jt = omega arith

one_is : (n : ℕ) → n + 1 ≤ 6400 → one_more n ≡ n + 1
one_is n le = omega arith

more_is : (n k : ℕ) → n + k ≤ 3072000 → min (n + k) greatest ≡ n + k
more_is n k le = omega arith

same_counts : (a b : Counts) → a.requests ≡ b.requests → a.ok ≡ b.ok → a.pieces ≡ b.pieces → a.bytes ≡ b.bytes → a ≡ b
same_counts a b e f g h = ap₂ (λ (x : ℕ) (y : ℕ). record { requests = x; ok = y; pieces = a.pieces; bytes = a.bytes }) e f
    ∙ ap₂ (λ (x : ℕ) (y : ℕ). record { requests = b.requests; ok = b.ok; pieces = x; bytes = y }) g h

pub file_counted : (m i j body : ℕ) (c : Counts) (new : List Answer) → m ≤ 400 → i < 8 → j < m → HasPlace 1 c → FileAsked i j body [] new → all_counted c new ≡ added 1 (length_of i j) c
file_counted m i j body c new most it jt place asked =
    let n : length (letters (length_of i j)) ≡ length_of i j = letters_length (length_of i j) in
    let small : length_of i j ≤ 480 = length_small m i j most it jt in
    let room = place.bytes in
    let bytes : min (c.bytes + length (letters (length_of i j))) greatest ≡ c.bytes + length_of i j = ap (λ z. min (c.bytes + z) greatest) n ∙ more_is c.bytes (length_of i j) (omega arith) in
    ap (all_counted c) asked.answers
    ∙ same_counts (all_counted c (Replied 200 asked.fields body ∷ Piece (letters (length_of i j)) ∷ End ∷ [])) (added 1 (length_of i j) c)
    (one_is c.requests place.requests) (one_is c.ok place.ok) (one_is c.pieces place.pieces) bytes

-- ---- files after each other

pub added_none : (c : Counts) → added 0 0 c ≡ c
added_none c = same_counts (added 0 0 c) c (omega arith) (omega arith) (omega arith) (omega arith)

pub added_twice : (a b x y : ℕ) (c : Counts) → added a x (added b y c) ≡ added (b + a) (y + x) c
added_twice a b x y c = same_counts (added a x (added b y c)) (added (b + a) (y + x) c) (omega arith) (omega arith) (omega arith) (omega arith)

pub place_after : (k n b : ℕ) (c : Counts) → b ≤ 480 * k → HasPlace (k + n) c → HasPlace n (added k b c)
place_after k n b c le p =
    let r = p.requests in let o = p.ok in let i = p.pieces in let y = p.bytes in
    record { requests = omega arith; ok = omega arith; pieces = omega arith; bytes = omega arith }

pub place_less : (k n : ℕ) (c : Counts) → n ≤ k → HasPlace k c → HasPlace n c
place_less k n c le p =
    let r = p.requests in let o = p.ok in let i = p.pieces in let y = p.bytes in
    record { requests = omega arith; ok = omega arith; pieces = omega arith; bytes = omega arith }

sum_more : (xs : List ℕ) (x : ℕ) → sum (xs ++ x ∷ []) ≡ sum xs + x
sum_more xs x = sum_by-append (λ z. z) xs (x ∷ []) ∙ omega arith

map_more : (f : ℕ → ℕ) (xs : List ℕ) (x : ℕ) → map f (xs ++ x ∷ []) ≡ map f xs ++ f x ∷ []
map_more f [] x = refl
map_more f (y ∷ ys) x = ap (λ z. f y ∷ z) (map_more f ys x)

flat_more : (f : ℕ → List ℕ) (xs : List ℕ) (x : ℕ) → sum (flat_map f (xs ++ x ∷ [])) ≡ sum (flat_map f xs) + sum (f x)
flat_more f [] x = ap sum (append_nil (f x)) ∙ sym (zero_plus (sum (f x)))
  where
    append_nil : (xs : List ℕ) → xs ++ [] ≡ xs
    append_nil [] = refl
    append_nil (x ∷ xs) = ap (λ z. x ∷ z) (append_nil xs)

    zero_plus : (n : ℕ) → 0 + n ≡ n
    zero_plus n = omega arith
flat_more f (y ∷ ys) x =
    sum_by-append (λ z. z) (f y) (flat_map f (ys ++ x ∷ []))
    ∙ (ap (λ z. sum (f y) + z) (flat_more f ys x) ∙ (assoc (sum (f y)) (sum (flat_map f ys)) (sum (f x)) ∙ ap (λ z. z + sum (f x)) (sym (sum_by-append (λ z. z) (f y) (flat_map f ys)))))
  where
    assoc : (a b c : ℕ) → a + (b + c) ≡ (a + b) + c
    assoc a b c = omega arith

pub dir_sum : (i j : ℕ) → sum (map (length_of i) (upto (j + 1))) ≡ sum (map (length_of i) (upto j)) + length_of i j
unfolding upto
dir_sum i j = rw add-one (ap sum (map_more (length_of i) (upto j) j) ∙ sum_more (map (length_of i) (upto j)) (length_of i j))

pub none_summed : (i : ℕ) → sum (map (length_of i) (upto 0)) ≡ 0
unfolding upto
none_summed i = refl

pub sum_small : (m i j : ℕ) → m ≤ 400 → i < 8 → j ≤ m → sum (map (length_of i) (upto j)) ≤ 480 * j
sum_small m i zero most it le = let e = none_summed i in omega arith
sum_small m i (suc j) most it le =
    let e : sum (map (length_of i) (upto (suc j))) ≡ sum (map (length_of i) (upto j)) + length_of i j = ap (λ z. sum (map (length_of i) (upto z))) (sym (add-one j)) ∙ dir_sum i j in
    let before = sum_small m i j most it (omega arith) in
    let here = length_small m i j most it (omega arith) in
    omega arith

-- the bytes of all files of the first so many directories
abbrev pub bytes_below : ℕ → ℕ → ℕ
bytes_below m n = sum (flat_map (λ i. map (length_of i) (upto m)) (upto n))

pub below_sum : (m n : ℕ) → bytes_below m (n + 1) ≡ bytes_below m n + sum (map (length_of n) (upto m))
unfolding upto
below_sum m n = rw add-one (flat_more (λ i. map (length_of i) (upto m)) (upto n) n)

pub none_below : (m : ℕ) → bytes_below m 0 ≡ 0
unfolding upto
none_below m = refl

pub below_small : (m n : ℕ) → m ≤ 400 → n ≤ 8 → bytes_below m n ≤ 480 * (n * m)
below_small m zero most le = let e = none_below m in omega arith
below_small m (suc n) most le =
    let e : bytes_below m (suc n) ≡ bytes_below m n + sum (map (length_of n) (upto m)) = ap (λ z. bytes_below m z) (sym (add-one n)) ∙ below_sum m n in
    let before = below_small m n most (omega arith) in
    let here = sum_small m n m most (omega arith) (omega arith) in
    let more : suc n * m ≡ n * m + m = omega arith in
    omega arith

-- ---- as the loops have it

pub asked_play : (m i j body : ℕ) (a : Stage) (given steps : List Step) (old new : List Answer) (result : Result Unit NoMemory) (b : Stage) → m ≤ 400 → i < 8 → j < m → IsReady m a
    → body ≡ a.playing.replies → AreStepsFor i j body steps → given ≡ steps → old ≡ [] → result ≡ Ok tt → IsSpared b → PlayedOn a given old new result b → Asked m i j a new b
asked_play m i j body a given steps old new result b most it jt ready same s are none went spared played =
    asked_well m i j a steps new result b most it jt ready (subst (λ z. AreStepsFor i j z steps) same s) went spared
    (subst (λ z. PlayedOn a steps z new result b) none (subst (λ z. PlayedOn a z old new result b) are played))

pub dir_begins : (i : ℕ) (c : Counts) → c ≡ added 0 (sum (map (length_of i) (upto 0))) c
dir_begins i c = sym (ap (λ z. added 0 z c) (none_summed i) ∙ added_none c)

pub dir_goes_on : (i j : ℕ) (c now next : Counts) → now ≡ added j (sum (map (length_of i) (upto j))) c → next ≡ added 1 (length_of i j) now
    → next ≡ added (j + 1) (sum (map (length_of i) (upto (j + 1)))) c
dir_goes_on i j c now next e f =
    f ∙ (ap (added 1 (length_of i j)) e ∙ (added_twice 1 j (length_of i j) (sum (map (length_of i) (upto j))) c ∙ ap (λ z. added (j + 1) z c) (sym (dir_sum i j))))

pub dir_has_place : (m i j : ℕ) (c now : Counts) → m ≤ 400 → i < 8 → j < m → HasPlace m c → now ≡ added j (sum (map (length_of i) (upto j))) c → HasPlace 1 now
dir_has_place m i j c now most it jt place e =
    subst (HasPlace 1) (sym e) (place_after j 1 (sum (map (length_of i) (upto j))) c (sum_small m i j most it (omega arith)) (place_less m (j + 1) c (omega arith) place))

pub all_begin : (m : ℕ) (c : Counts) → c ≡ added (0 * m) (bytes_below m 0) c
all_begin m c =
    let none : 0 * m ≡ 0 = omega arith in
    sym (ap₂ (λ (x y : ℕ). added x y c) none (none_below m) ∙ added_none c)

next_files : (m i : ℕ) → i * m + m ≡ (i + 1) * m
next_files m i = omega arith

pub all_go_on : (m i : ℕ) (c now next : Counts) → now ≡ added (i * m) (bytes_below m i) c → next ≡ added m (sum (map (length_of i) (upto m))) now
    → next ≡ added ((i + 1) * m) (bytes_below m (i + 1)) c
all_go_on m i c now next e f =
    f ∙ (ap (added m (sum (map (length_of i) (upto m)))) e ∙ (added_twice m (i * m) (sum (map (length_of i) (upto m))) (bytes_below m i) c
    ∙ ap₂ (λ (x y : ℕ). added x y c) (next_files m i) (sym (below_sum m i))))

rows_within : (m i : ℕ) → i < 8 → i * m + m ≤ 8 * m
rows_within m i lt = let e : i * m + m ≡ (i + 1) * m = next_files m i in let le : (i + 1) * m ≤ 8 * m = by_rows (i + 1) 8 m (omega arith) in omega arith
  where
    by_rows : (a b c : ℕ) → a ≤ b → a * c ≤ b * c
    by_rows a b c h = grind arith

pub all_have_place : (m i : ℕ) (c now : Counts) → m ≤ 400 → i < 8 → HasPlace (8 * m) c → now ≡ added (i * m) (bytes_below m i) c → HasPlace m now
all_have_place m i c now most it place e =
    subst (HasPlace m) (sym e) (place_after (i * m) m (bytes_below m i) c (below_small m i most (omega arith)) (place_less (8 * m) (i * m + m) c (rows_within m i it) place))

pub second_round : (m : ℕ) (c : Counts) → m ≤ 400 → c ≡ added (8 * m) (sum (lengths m)) nothing_counted → HasPlace (8 * m) c
second_round m c most e =
    subst (HasPlace (8 * m)) (sym e) (place_after (8 * m) (8 * m) (bytes_below m 8) nothing_counted (below_small m 8 most (omega arith))
    (record { requests = omega arith; ok = omega arith; pieces = omega arith; bytes = omega arith }))
