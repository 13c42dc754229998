-- The lengths of all files, summed.
use Rattle.std.proofs.Common.{◌≡◌, ℕ, zero, suc, ◌+◌, ◌*◌, sum, map, sym, ap, ◌∙◌, arith, add-one}
use Rattle.dav_bench.specs.Totals.{lengths}
use Rattle.dav_bench.specs.Tree.{length_of, upto}
use Rattle.dav_bench.proofs.Counted.{below_sum, bytes_below, dir_sum, none_below, none_summed}

dir_sum_next : (i j : ℕ) → sum (map (length_of i) (upto (suc j))) ≡ sum (map (length_of i) (upto j)) + length_of i j
dir_sum_next i j = ap (λ z. sum (map (length_of i) (upto z))) (sym (add-one j)) ∙ dir_sum i j

-- of one directory
dir_formula : (i j : ℕ) → 2 * sum (map (length_of i) (upto j)) + j ≡ 20 * ((i + 1) * j) + j * j
dir_formula i zero = let e = none_summed i in omega arith
dir_formula i (suc j) =
    let e = dir_sum_next i j in
    let before = dir_formula i j in
    let square : suc j * suc j ≡ j * j + (2 * j + 1) = omega arith in
    let more : (i + 1) * suc j ≡ (i + 1) * j + (i + 1) = omega arith in
    omega arith

below_next : (m n : ℕ) → bytes_below m (suc n) ≡ bytes_below m n + sum (map (length_of n) (upto m))
below_next m n = ap (λ z. bytes_below m z) (sym (add-one n)) ∙ below_sum m n

all_formula : (m n : ℕ) → 2 * bytes_below m n + n * m ≡ 10 * ((n * (n + 1)) * m) + n * (m * m)
all_formula m zero = let e = none_below m in omega arith
all_formula m (suc n) =
    let e = below_next m n in
    let before = all_formula m n in
    let here = dir_formula n m in
    let rows : suc n * m ≡ n * m + m = omega arith in
    let squares : suc n * (m * m) ≡ n * (m * m) + m * m = omega arith in
    let tens : (suc n * (suc n + 1)) * m ≡ (n * (n + 1)) * m + 2 * ((n + 1) * m) = omega arith in
    omega arith

pub bytes_formula : (m : ℕ) → 2 * sum (lengths m) ≡ 8 * (m * (m + 89))
bytes_formula m =
    let all : 2 * bytes_below m 8 + 8 * m ≡ 10 * ((8 * (8 + 1)) * m) + 8 * (m * m) = all_formula m 8 in
    let more : m * (m + 89) ≡ m * m + 89 * m = omega arith in
    omega arith
