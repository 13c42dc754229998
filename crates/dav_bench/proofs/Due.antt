-- What is due to a request of the large input: the whole file.
use Rattle.std.proofs.Common.{◌≡◌, inl, inr, ℕ, zero, suc, ◌<◌, ◌≤◌, ◌==◌, Bool, true, false, cond, List, [], ◌∷◌, length, Ok, refl, ap, subst, ◌∙◌, arith}
use Rattle.std.proofs.lemmas.Bool.Decides.{nat_tests}
use Rattle.dav_io.specs.Counts.{Rose}
use Rattle.dav_core.specs.declared.method.DavMethod.TheVariants.{Get}
use Rattle.dav_core.specs.DavPath.{WebPath}
use Rattle.dav_core.specs.Path.{Names}
use Rattle.dav_core.specs.Tree.{look, is_linked}
use Rattle.dav_core.specs.World.{World, bytes_of}
use Rattle.dav_model.specs.declared.sent.Sent.TheVariants.{All}
use Rattle.dav_model.specs.Bodies.{slice}
use Rattle.dav_model.specs.Due.{IsHead, IsRight, Query, due, due_looked, due_opened, file, query}
use Rattle.dav_model.specs.Finding.{resolved, resolved_from, shown_in, stood_at}
use Rattle.dav_model.specs.Head.{IsSent, Reply, Stood, stood_in}
use Rattle.dav_model.specs.Play.{MeetsNoLink}
use Rattle.dav_model.specs.Unset.{nothing_set}
use Rattle.dav_bench.specs.Names.{asked_at, asked_path}
use Rattle.dav_bench.specs.Tree.{IsBench, file_row, length_of, letters, rows}
use Rattle.dav_bench.specs.Asking.{bench_rules}
use Rattle.dav_bench.proofs.Standing.{asked_is_found, file_stands, none_linked}

-- the query of a request
abbrev pub bench_query : ℕ → ℕ → Query
bench_query i j = query nothing_set [] Get (asked_at i j)

pub meets_none : (m i j : ℕ) (w : World) → IsBench m w → MeetsNoLink bench_rules w (bench_query i j)
meets_none m i j w b = record {
  paths = record { path = none (resolved bench_rules w.tree (asked_path i j)); index = λ slash name set. cc };
  members = λ e. cc;
}
  where
    none : (path : Names) → is_linked w.tree path ≡ false
    none path = ap (λ tree. is_linked tree path) b.tree ∙ none_linked m path

-- the row of a file as it stands
abbrev pub file_stood : World → ℕ → ℕ → ℕ → Stood
file_stood w m i j = stood_in w (file_row m i j)

stands_at : (m i j : ℕ) (w : World) → m ≤ 400 → i < 8 → j < m → IsBench m w
    → stood_at false w (look w.tree (resolved bench_rules w.tree (asked_path i j))) ≡ Ok (file_stood w m i j)
stands_at m i j w most it jt b =
    ap (λ tree. stood_at false w (look tree (resolved_from true tree [] (asked_path i j)))) b.tree
    ∙ (ap (λ path. stood_at false w (look (rows m) path)) (asked_is_found m i j most it jt)
    ∙ ap (stood_at false w) (file_stands m i j most it jt))

pub file_is_due : (m i j : ℕ) (w : World) → m ≤ 400 → i < 8 → j < m → IsBench m w
    → due (shown_in bench_rules w) (bench_query i j) ≡ file (asked_at i j) (file_stood w m i j)
file_is_due m i j w most it jt b =
    ap (due_looked (shown_in bench_rules w) (bench_query i j)) (stands_at m i j w most it jt b)
    ∙ ap (due_opened (asked_at i j)) (stands_at m i j w most it jt b)

pub record IsWhole (number len : ℕ) (reply : Reply) : Type 0 where
  pub status : reply.status ≡ 200
  pub parts : reply.parts ≡ slice number 0 len ∷ []

some_length : (b : Bool) (number len : ℕ) → (len == 0) ≡ b → 0 < len → cond b [] (slice number 0 len ∷ []) ≡ slice number 0 len ∷ []
some_length true number len e some = absurd (zero_not len e some)
  where
    zero_not : (len : ℕ) → (len == 0) ≡ true → 0 < len → ⊥
    zero_not len e some = grind (arith, nat_tests)
some_length false number len e some = refl

-- a file of which some bytes stand is sent whole
sent_whole : (path : WebPath) (stood : Stood) (reply : Reply) → 0 < stood.len → IsSent Get path stood All reply → IsWhole stood.number stood.len reply
sent_whole path stood reply some (date, told, is) = record {
  status = ap (λ (r : Reply). r.status) is;
  parts = ap (λ (r : Reply). r.parts) is ∙ some_length (stood.len == 0) stood.number stood.len refl some;
}

head_whole : (path : WebPath) (stood : Stood) (reply : Reply) (q : Query) → q ≡ query nothing_set [] Get path → 0 < stood.len → IsHead q (file path stood) reply → IsWhole stood.number stood.len reply
head_whole path stood reply q e some head =
    let here : IsHead (query nothing_set [] Get path) (file path stood) reply = subst (λ q. IsHead q (file path stood) reply) e head in
    sent_whole path stood reply some here

pub letters_length : (n : ℕ) → length (letters n) ≡ n
letters_length zero = refl
letters_length (suc n) = ap suc (letters_length n)

not_rose : (s t : ℕ) → t ≡ 0 → Rose s t → ⊥
not_rose s t e (inl less) = omega arith
not_rose s t e (inr full) = omega arith

-- the reply to a request of the large input, where no fault was met
pub reply_is_whole : (m i j : ℕ) (w : World) (reply : Reply) (s t : ℕ) → m ≤ 400 → i < 8 → j < m → IsBench m w → t ≡ 0
    → IsRight (bench_query i j) (shown_in bench_rules w) (Rose s t) reply → IsWhole (file_row m i j).number (length_of i j) reply
reply_is_whole m i j w reply s t most it jt b none (inr (spoiled, rose)) = absurd (not_rose s t none rose)
reply_is_whole m i j w reply s t most it jt b none (inl head) =
    let stood = file_stood w m i j in
    let here : IsHead (bench_query i j) (file (asked_at i j) stood) reply = subst (λ d. IsHead (bench_query i j) d reply) (file_is_due m i j w most it jt b) head in
    let len : length (bytes_of w (file_row m i j).number) ≡ length_of i j = ap (λ (bs : List ℕ). length bs) (b.bytes i j it jt) ∙ letters_length (length_of i j) in
    let some : 0 < stood.len = omega arith in
    subst (λ n. IsWhole (file_row m i j).number n reply) len (head_whole (asked_at i j) stood reply (bench_query i j) refl some here)
