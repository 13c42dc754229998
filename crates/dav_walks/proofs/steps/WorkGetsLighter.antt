-- The work gets lighter where a directory's members take its place.
-- Headline: `members_lighter`.
use Rattle.std.proofs.Common.{◌≡◌, ◌≤◌, ◌<◌, ◌+◌, ◌-◌, ◌*◌, ◌^◌, ◌++◌, ℕ, zero, suc, nat_lt, List, [], ◌∷◌, map, length, Bool, true, false, Result, Ok, Err, sym, ap, subst, ◌∙◌, arith, length-append, sum_by}
use Rattle.std.proofs.Math.Nat.{mul-le-mul_right}
use Rattle.std.proofs.lemmas.Bool.Decides.{nat_tests}
use Rattle.std.proofs.lemmas.List.Sums.{sum_by-cons}
use Rattle.std.proofs.lemmas.List.Sorted.{length_permutation, sum_by-IsPermutation}
use Rattle.std.specs.List.Sorted.{IsPermutation}
use Rattle.dav_core.specs.declared.error.FsError.{FsError}
use Rattle.dav_core.specs.DavPath.{WebPath}
use Rattle.dav_core.specs.Info.{Info}
use Rattle.dav_core.specs.Tree.{is_dir}
use Rattle.dav_store.specs.Members.{Answered}
use Rattle.dav_walks.specs.declared.child.Child.{Child}
use Rattle.dav_walks.specs.declared.work.Work.{Work}
use Rattle.dav_walks.specs.declared.work.Work.TheVariants.{Emptied, Whole}
use Rattle.dav_store.specs.View.{View, Listings}
use Rattle.dav_walks.specs.Reading.{HasMembers, child_named, child_said, children_said}
use Rattle.dav_walks.specs.Removing.{is_deep, work_of, works_in}
use Rattle.dav_walks.specs.Weights.{depth_left, weight, weight_of, width}

pub some_width : (k : ℕ) → 1 ≤ width k
some_width zero = omega arith
some_width (suc k) = omega (arith, some_width k)

abbrev weigh : Child → ℕ
weigh m = weight_of (work_of m)

-- the width below a directory
abbrev below : WebPath → ℕ
below path = width (65536 - length path.names)

one_weighs : (path : WebPath) (dir : Bool) (n : ℕ) → length path.names ≡ n + 1 → weight_of (Whole path dir) ≤ width (65536 - n)
one_weighs path true n long =
    let same : depth_left path ≡ 65536 - n = omega (arith, long) in
    let equal : width (depth_left path) ≡ width (65536 - n) = ap width same in omega (arith, equal)
one_weighs path false n long = some_width (65536 - n)

child_weighs : (path : WebPath) (name : List ℕ) (dir : Bool) → weigh (child_named path name dir) ≤ below path
child_weighs path name dir = one_weighs (child_named path name dir).path dir (length path.names) (omega (arith, length-append path.names (name ∷ [])))

one_more : (n w : ℕ) → suc n * w ≡ w + n * w
one_more n w = omega arith

one_and_all : (path : WebPath) (name : List ℕ) (said : Result Info FsError) (rest : List Child) → sum_by weigh rest ≤ length rest * below path
    → sum_by weigh (child_said path name said ++ rest) ≤ length (child_said path name said ++ rest) * below path
one_and_all path name (Ok info) rest all =
    let child = child_named path name (is_dir info.kind) in
    let first : weigh child ≤ below path = child_weighs path name (is_dir info.kind) in
    let sum : sum_by weigh (child ∷ rest) ≡ weigh child + sum_by weigh rest = sum_by-cons weigh child rest in
    let more : suc (length rest) * below path ≡ below path + length rest * below path = one_more (length rest) (below path) in
    omega (arith, all, first, sum, more)
one_and_all path name (Err e) rest all = all

children_weigh : (path : WebPath) (answers : List Answered) → sum_by weigh (children_said path answers) ≤ length (children_said path answers) * below path
children_weigh path [] = omega arith
children_weigh path (a ∷ answers) = one_and_all path a.name a.meta (children_said path answers) (children_weigh path answers)

-- members in another order
members_weigh : (path : WebPath) (answers : List Answered) (listed members : List Child) → listed ≡ children_said path answers → IsPermutation listed members
    → sum_by weigh members ≤ length members * below path
members_weigh path answers listed members told once =
    let all = subst (λ xs. sum_by weigh xs ≤ length xs * below path) (sym told) (children_weigh path answers) in
    let same = sum_by-IsPermutation weigh listed members once in
    let long = length_permutation listed members once in
    let right : length members * below path ≡ length listed * below path = ap (λ n. n * below path) long in
    omega (arith, all, same, right)

pub weight_in : (members : List Child) (works : List Work) → weight (map work_of members ++ works) ≡ sum_by weigh members + weight works
weight_in [] works = omega arith
weight_in (m ∷ members) works =
    let rest : weight (map work_of members ++ works) ≡ sum_by weigh members + weight works = weight_in members works in
    let sum : sum_by weigh (m ∷ members) ≡ weigh m + sum_by weigh members = sum_by-cons weigh m members in
    omega (arith, rest, sum)

deeper : (n : ℕ) → nat_lt 65536 n ≡ false → 65537 - n ≡ suc (65536 - n)
deeper n near = grind (arith, nat_tests)

-- A directory that isn't too deep weighs more than it itself does without its members.
pub wide : (path : WebPath) → is_deep path ≡ false → 2 ≤ weight_of (Whole path true)
wide path near =
    let own : width (depth_left path) ≡ 2 ^ 65 * below path = ap width (deeper (length path.names) near) in
    omega (arith, own, some_width (65536 - length path.names))

-- A directory that isn't too deep weighs more than its members and it itself.
pub lighter_in : (path : WebPath) (answers : List Answered) (listed members : List Child) (works : List Work) → is_deep path ≡ false → listed ≡ children_said path answers
    → IsPermutation listed members → length members < 2 ^ 64 → weight (works_in path members works) < weight (Whole path true ∷ works)
lighter_in path answers listed members works near told once few =
    let own : width (depth_left path) ≡ 2 ^ 65 * below path = ap width (deeper (length path.names) near) in
    let all = members_weigh path answers listed members told once in
    let bound : length members * below path ≤ 2 ^ 64 * below path = mul-le-mul_right (below path) (omega (arith, few)) in
    let some = some_width (65536 - length path.names) in
    let split = weight_in members (Emptied path ∷ works) in
    omega (arith, own, all, bound, some, split)

-- the same, where a directory's members were read
module _ {S C F L E : Type 0} (view : View S C F) (lists : Listings S C L E) where
  pub members_lighter : (s t : S) (c : C) (path : WebPath) (members : List Child) (old works new : List Work) → HasMembers view lists s c path members t → is_deep path ≡ false
      → length members < 2 ^ 64 → works ≡ old → new ≡ works_in path members works → weight new < weight (Whole path true ∷ old)
  members_lighter s t c path members old works new has near few same is =
      let less = lighter_in path has.was.reads.answers has.listed members old near has.was.reads.told has.each_once few in
      let put : new ≡ works_in path members old = is ∙ ap (works_in path members) same in
      subst (λ xs. weight xs < weight (Whole path true ∷ old)) (sym put) less
