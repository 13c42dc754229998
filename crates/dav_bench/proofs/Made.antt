-- Row by row the disk of the large input is made.
use Rattle.std.proofs.Common.{◌≡◌, ◌⊎◌, inl, inr, ℕ, ◌+◌, ◌*◌, ◌==◌, ◌<◌, ◌≤◌, ◌&&◌, Bool, true, false, not, nat_lt, max, List, [], ◌∷◌, ◌++◌, Option, None, Some, Result, Ok, Err, OnOk, refl, sym, ap, ap₂, subst, ◌∙◌, arith}
use Rattle.std.proofs.lemmas.Bool.Decides.{nat_tests}
use Rattle.std.proofs.lemmas.Int.{ints}
use Rattle.std.specs.Option.{is_none}
use Rattle.std.specs.List.{list_any}
use Rattle.dav_core.specs.declared.tree.Row.{Row}
use Rattle.dav_core.specs.declared.time.FileTime.{FileTime}
use Rattle.dav_core.specs.Changes.{is_free_in}
use Rattle.dav_core.specs.Path.{Names}
use Rattle.dav_core.specs.World.{Stored, World, bytes_of, bytes_or_none, put}
use Rattle.dav_disk.specs.declared.sure_disk.SureDisk.{SureDisk}
use Rattle.dav_disk.specs.Calls.{state_of}
use Rattle.dav_disk.specs.Rows.{at_second, can_add, first_world, later_of, second_past, with_dir, with_file}
use Rattle.dav_disk.specs.Sure.{sure_state, sure_world}
use Rattle.dav_bench.specs.Names.{dir_path, file_path}
use Rattle.dav_bench.specs.Making.{IsSoFar}
use Rattle.dav_bench.specs.Tree.{IsBench, beginning, dir_row, file_row, length_of, letters}
use Rattle.dav_bench.proofs.Building.{dir_is_free, dir_more, dir_number_is_new, earlier_dir, file_is_free, file_more, file_number_is_new, next_dir, rows_at_first, rows_at_last}
use Rattle.std.proofs.lemmas.Bool.{ne_eqb, eq-eqb}
use Rattle.std.proofs.lemmas.Option.{same_Some}

pub at_first : (m : ℕ) → IsSoFar 0 m 0 0 first_world
at_first m = record {
  tree = sym (rows_at_first m);
  below = λ k l lt. absurd (omega arith);
  here = λ l lt. absurd (omega arith);
  others = λ number which. refl;
  numbers = omega arith;
  latest = refl;
}

low : (n : ℕ) → n < 9223372036854775808 → nat_lt n 9223372036854775808 ≡ true
low n lt = grind (arith, nat_tests)

may_add : (free any none low : Bool) → free ≡ true → any ≡ false → none ≡ true → low ≡ true → (free && ((not any && none) && (low && true))) ≡ true
may_add free any none low e f g h = rw (e, f, g, h) refl

latest_stays : (w : World) → w.latest ≡ at_second 1 → later_of w.latest (second_past beginning) ≡ at_second 1
latest_stays w e = ap (λ t. later_of t (second_past beginning)) e

greatest_below : (a b c : ℕ) → a < c → b < c → max a b < c
greatest_below a b c h g = omega arith

-- ---- directories

pub dir_may_be_added : (m n : ℕ) (w : World) → n < 8 → IsSoFar n m 0 0 w → can_add w (dir_path n) (2 + n) beginning ≡ true
dir_may_be_added m n w lt so = may_add (is_free_in w.tree (dir_path n)) (list_any (λ (row : Row). (2 + n) == row.number) w.tree) (is_none (w.files (2 + n))) (nat_lt (2 + n) 9223372036854775808)
    (ap (λ tree. is_free_in tree (dir_path n)) so.tree ∙ dir_is_free m n lt)
    (ap (λ tree. list_any (λ (row : Row). (2 + n) == row.number) tree) so.tree ∙ dir_number_is_new m n)
    (ap is_none (so.others (2 + n) (inl (omega arith))))
    (low (2 + n) (omega arith))

pub dir_is_added : (m n : ℕ) (w : World) → n < 8 → IsSoFar n m 0 0 w → IsSoFar (n + 1) m 0 0 (with_dir w (dir_path n) (2 + n) beginning)
dir_is_added m n w lt so = record {
  tree = ap (λ tree. tree ++ dir_row n ∷ []) so.tree ∙ sym (dir_more n m);
  below = λ k l less. absurd (omega arith);
  here = λ l less. absurd (omega arith);
  others = so.others;
  numbers = greatest_below w.greatest (2 + n) (10 + (0 * m + 0)) so.numbers (omega arith);
  latest = latest_stays w so.latest;
}

-- ---- files

small_product : (i m : ℕ) → i ≤ 8 → m ≤ 400 → i * m ≤ 3200
small_product i m le most = let e : i * m ≤ 8 * m = by_rows i 8 m le in omega arith
  where
    by_rows : (a b c : ℕ) → a ≤ b → a * c ≤ b * c
    by_rows a b c h = grind arith

pub file_may_be_added : (m i j : ℕ) (w : World) → m ≤ 400 → i < 8 → j < m → IsSoFar 8 m i j w → can_add w (file_path i j) (10 + (i * m + j)) beginning ≡ true
file_may_be_added m i j w most it jt so =
    let p : i * m ≤ 3200 = small_product i m (omega arith) most in
    may_add (is_free_in w.tree (file_path i j)) (list_any (λ (row : Row). (10 + (i * m + j)) == row.number) w.tree) (is_none (w.files (10 + (i * m + j)))) (nat_lt (10 + (i * m + j)) 9223372036854775808)
    (ap (λ tree. is_free_in tree (file_path i j)) so.tree ∙ file_is_free m i j most it jt)
    (ap (λ tree. list_any (λ (row : Row). (10 + (i * m + j)) == row.number) tree) so.tree ∙ file_number_is_new m i j)
    (ap is_none (so.others (10 + (i * m + j)) (inr (omega arith))))
    (low (10 + (i * m + j)) (omega arith))

put_other : (k n : ℕ) (s : Option Stored) (files : ℕ → Option Stored) → (n ≡ k → ⊥) → put k s files n ≡ files n
put_other k n s files f = rw (ne_eqb n k f) refl

put_here : (k n : ℕ) (s : Option Stored) (files : ℕ → Option Stored) → n ≡ k → put k s files n ≡ s
put_here k n s files e = rw (eq-eqb n k e) refl

-- the files that stood there keep their bytes
kept_bytes : (m i j number : ℕ) (w : World) (bytes expected : List ℕ) → number < 10 + (i * m + j) → bytes_of w number ≡ expected
    → bytes_of (with_file w (file_path i j) (10 + (i * m + j)) beginning bytes) number ≡ expected
kept_bytes m i j number w bytes expected lt e =
    ap bytes_or_none (put_other (10 + (i * m + j)) number (Some (record { bytes = bytes; time = beginning })) w.files (λ f. omega arith)) ∙ e

last_or_before : (l j : ℕ) → l < j + 1 → (l ≡ j) ⊎ (l < j)
last_or_before l j lt = grind arith

here_by : (m i j l : ℕ) (w : World) → IsSoFar 8 m i j w → (l ≡ j) ⊎ (l < j)
    → bytes_of (with_file w (file_path i j) (10 + (i * m + j)) beginning (letters (length_of i j))) (file_row m i l).number ≡ letters (length_of i l)
here_by m i j l w so (inl same) =
    ap bytes_or_none (put_here (10 + (i * m + j)) (10 + (i * m + l)) (Some (record { bytes = letters (length_of i j); time = beginning })) w.files (ap (λ z. 10 + (i * m + z)) same))
    ∙ ap (λ z. letters (length_of i z)) (sym same)
here_by m i j l w so (inr less) = kept_bytes m i j (10 + (i * m + l)) w (letters (length_of i j)) (letters (length_of i l)) (omega arith) (so.here l less)

before_or : (number : ℕ) (i m j : ℕ) → (number < 10) ⊎ (10 + (i * m + (j + 1)) ≤ number) → (number < 10) ⊎ (10 + (i * m + j) ≤ number)
before_or number i m j (inl lt) = inl lt
before_or number i m j (inr le) = inr (omega arith)

not_new : (number : ℕ) (i m j : ℕ) → (number < 10) ⊎ (10 + (i * m + (j + 1)) ≤ number) → number ≡ 10 + (i * m + j) → ⊥
not_new number i m j (inl lt) e = omega arith
not_new number i m j (inr le) e = omega arith

pub file_is_added : (m i j : ℕ) (w : World) → i < 8 → j < m → IsSoFar 8 m i j w
    → IsSoFar 8 m i (j + 1) (with_file w (file_path i j) (10 + (i * m + j)) beginning (letters (length_of i j)))
file_is_added m i j w it jt so = record {
  tree = ap (λ tree. tree ++ file_row m i j ∷ []) so.tree ∙ sym (file_more 8 m i j);
  below = λ k l kt lt. kept_bytes m i j (10 + (k * m + l)) w (letters (length_of i j)) (letters (length_of k l)) (let e = earlier_dir m k i l j kt lt in omega arith) (so.below k l kt lt);
  here = λ l lt. here_by m i j l w so (last_or_before l j lt);
  others = λ number which. put_other (10 + (i * m + j)) number (Some (record { bytes = letters (length_of i j); time = beginning })) w.files (not_new number i m j which)
      ∙ so.others number (before_or number i m j which);
  numbers = greatest_below w.greatest (10 + (i * m + j)) (10 + (i * m + (j + 1))) (let n = so.numbers in omega arith) (omega arith);
  latest = latest_stays w so.latest;
}

next_row : (i m : ℕ) → (i + 1) * m ≡ i * m + m
next_row i m = omega arith

below_by : (m i k l : ℕ) (w : World) → IsSoFar 8 m i m w → (k ≡ i) ⊎ (k < i) → l < m → bytes_of w (file_row m k l).number ≡ letters (length_of k l)
below_by m i k l w so (inl same) lt = ap (λ z. bytes_of w (file_row m z l).number) same ∙ (so.here l lt ∙ ap (λ z. letters (length_of z l)) (sym same))
below_by m i k l w so (inr less) lt = so.below k l less lt

others_by : (number i m : ℕ) → (number < 10) ⊎ (10 + ((i + 1) * m + 0) ≤ number) → (number < 10) ⊎ (10 + (i * m + m) ≤ number)
others_by number i m (inl lt) = inl lt
others_by number i m (inr le) = inr (let e = next_row i m in omega arith)

-- all files of a directory were made
pub dir_is_done : (m i : ℕ) (w : World) → IsSoFar 8 m i m w → IsSoFar 8 m (i + 1) 0 w
dir_is_done m i w so = record {
  tree = so.tree ∙ next_dir 8 m i;
  below = λ k l kt lt. below_by m i k l w so (last_or_before k i kt) lt;
  here = λ l lt. absurd (omega arith);
  others = λ number which. so.others number (others_by number i m which);
  numbers = let n = so.numbers in let e = next_row i m in omega arith;
  latest = so.latest;
}

pub all_is_made : (m : ℕ) (w : World) → m ≤ 400 → IsSoFar 8 m 8 0 w → IsBench m w
all_is_made m w most so = record {
  tree = so.tree ∙ rows_at_last m;
  bytes = so.below;
  room = record {
    numbers = let n = so.numbers in omega arith;
    times = rw so.latest (omega (arith, ints));
  };
}

-- ---- disks

pub world_told : (d e : SureDisk) (w : World) → sure_state e ≡ record (sure_state d) { told = Some w } → sure_world e ≡ w
world_told d e w same = same_Some (sure_world e) w (ap (λ s. s.told) same)

-- the same with a path, a time and bytes that are known to be those
pub dir_fits : (m n : ℕ) (d : SureDisk) (path : Names) (time : FileTime) → path ≡ dir_path n → time ≡ beginning → n < 8 → IsSoFar n m 0 0 (sure_world d)
    → can_add (sure_world d) path (2 + n) time ≡ true
dir_fits m n d path time e f lt so = ap₂ (λ p t. can_add (sure_world d) p (2 + n) t) e f ∙ dir_may_be_added m n (sure_world d) lt so

pub dir_made : (m n : ℕ) (d new : SureDisk) (path : Names) (time : FileTime) → path ≡ dir_path n → time ≡ beginning → n < 8 → IsSoFar n m 0 0 (sure_world d)
    → sure_state new ≡ record (sure_state d) { told = Some (with_dir (sure_world d) path (2 + n) time) } → IsSoFar (n + 1) m 0 0 (sure_world new)
dir_made m n d new path time e f lt so told =
    let w : sure_world new ≡ with_dir (sure_world d) (dir_path n) (2 + n) beginning =
    world_told d new (with_dir (sure_world d) path (2 + n) time) told ∙ ap₂ (λ p t. with_dir (sure_world d) p (2 + n) t) e f in
    subst (IsSoFar (n + 1) m 0 0) (sym w) (dir_is_added m n (sure_world d) lt so)

pub file_fits : (m i j : ℕ) (d : SureDisk) (path : Names) (time : FileTime) → path ≡ file_path i j → time ≡ beginning → m ≤ 400 → i < 8 → j < m → IsSoFar 8 m i j (sure_world d)
    → can_add (sure_world d) path (10 + (i * m + j)) time ≡ true
file_fits m i j d path time e f most it jt so = ap₂ (λ p t. can_add (sure_world d) p (10 + (i * m + j)) t) e f ∙ file_may_be_added m i j (sure_world d) most it jt so

pub file_made : (m i j : ℕ) (d new : SureDisk) (path : Names) (time : FileTime) (bytes : List ℕ) → path ≡ file_path i j → time ≡ beginning → bytes ≡ letters (length_of i j) → i < 8 → j < m
    → IsSoFar 8 m i j (sure_world d) → sure_state new ≡ record (sure_state d) { told = Some (with_file (sure_world d) path (10 + (i * m + j)) time bytes) }
    → IsSoFar 8 m i (j + 1) (sure_world new)
file_made m i j d new path time bytes e f g it jt so told =
    let w : sure_world new ≡ with_file (sure_world d) (file_path i j) (10 + (i * m + j)) beginning (letters (length_of i j)) =
    world_told d new (with_file (sure_world d) path (10 + (i * m + j)) time bytes) told
    ∙ (ap₂ (λ p t. with_file (sure_world d) p (10 + (i * m + j)) t bytes) e f ∙ ap (with_file (sure_world d) (file_path i j) (10 + (i * m + j)) beginning) g) in
    subst (IsSoFar 8 m i (j + 1)) (sym w) (file_is_added m i j (sure_world d) it jt so)

pub new_made : (m : ℕ) (d : SureDisk) → sure_state d ≡ state_of (record { world = first_world; live = λ _. None }) 0 0 true → IsSoFar 0 m 0 0 (sure_world d)
new_made m d e = let w : sure_world d ≡ first_world = same_Some (sure_world d) first_world (ap (λ s. s.told) e) in subst (IsSoFar 0 m 0 0) (sym w) (at_first m)

pub made_then : {E A B : Type 0} (r : Result Unit E) → (A → B) → OnOk r A → OnOk r B
made_then (Ok x) f a = f a
made_then (Err e) f a = tt
