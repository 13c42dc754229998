-- What the steps of one file are answered, and that the player is ready for the next.
use Rattle.std.proofs.Common.{◌≡◌, inl, inr, ℕ, zero, suc, ◌+◌, ◌-◌, ◌==◌, ◌<◌, ◌≤◌, Bool, true, false, min, List, [], ◌∷◌, ◌++◌, length, take, Option, None, Some, is_some, Ok, refl, sym, ap, ap₂, subst, ◌∙◌, arith, append-nil}
use Rattle.std.proofs.lemmas.Bool.Decides.{nat_tests}
use Rattle.std.proofs.lemmas.Bool.{eq-eqb}
use Rattle.dav_io.specs.Counts.{Rose, greatest}
use Rattle.dav_io.specs.Told.{Both}
use Rattle.dav_io.specs.declared.fields.Field.{Field}
use Rattle.dav_core.specs.declared.method.DavMethod.TheVariants.{Get}
use Rattle.dav_core.specs.World.{Holds, SameBesidesOpens, World, bytes_or_none, is_numbered, put}
use Rattle.dav_model.specs.declared.answer.Answer.{Answer}
use Rattle.dav_model.specs.declared.answer.Answer.TheVariants.{Reply as Replied, Piece, End}
use Rattle.dav_model.specs.declared.target.Target.{Target}
use Rattle.dav_model.specs.declared.target.Target.TheVariants.{At}
use Rattle.http.specs.Request.{body_of}
use Rattle.dav_model.specs.Bodies.{Part, PieceOf, Polls, moved, slice, standing_from, read_size_of}
use Rattle.dav_model.specs.Head.{Reply}
use Rattle.dav_model.specs.Play.{Gets, Playing, RepliesByTree, Stage}
use Rattle.dav_model.specs.Conditions.{Asked, fields_of}
use Rattle.dav_model.specs.Rules.{Rules}
use Rattle.dav_model.specs.Trail.{Leaves, Point, target_of}
use Rattle.dav_model.specs.Valid.{Occurs, Valid, no_twins}
use Rattle.dav_model.specs.Written.{Makes}
use Rattle.dav_bench.specs.Names.{asked_at}
use Rattle.dav_bench.specs.Tree.{IsBench, file_row, length_of, letters, rows}
use Rattle.dav_bench.specs.Asking.{IsAsking, IsReady, bench_rules}
use Rattle.dav_bench.proofs.Lists.{some_file}
use Rattle.dav_bench.proofs.Standing.{few, small}
use Rattle.dav_bench.proofs.Building.{rows_have_no_twins}
use Rattle.dav_bench.proofs.Targets.{asks_at}
use Rattle.dav_bench.proofs.Due.{IsWhole, letters_length, meets_none, reply_is_whole}
use Rattle.dav_bench.proofs.Moves.{ThreeMoves}

-- ---- worlds

held : (m i j : ℕ) (w : World) → i < 8 → j < m → w.tree ≡ rows m → Holds w (file_row m i j).number
held m i j w it jt e =
    inl (ap (λ tree. is_numbered tree (file_row m i j).number) e ∙ some_file (λ row. (file_row m i j).number == row.number) 8 m i j it jt (eq-eqb (file_row m i j).number (file_row m i j).number refl))

bench_stays : (m : ℕ) (v w : World) → IsBench m v → SameBesidesOpens v w → IsBench m w
bench_stays m v w b same = record {
  tree = same.tree ∙ b.tree;
  bytes = λ i j it jt. ap bytes_or_none (same.files (file_row m i j).number (held m i j w it jt (same.tree ∙ b.tree))).1 ∙ b.bytes i j it jt;
  room =
      let r = b.room in
      record {
        numbers = let n = r.numbers in let e = same.greatest in subst (λ (n : ℕ). n < greatest) (sym e) n;
        times = rw same.latest r.times;
      };
}

-- a point that tells a world of the large input
record Tells (m : ℕ) (s : Point) : Type 0 where
  world : World
  told : s.told ≡ Some world
  bench : IsBench m world

leaves_by : (m : ℕ) (a b : Option World) (v : World) → a ≡ Some v → IsBench m v → Both a b SameBesidesOpens → (w : World) × (b ≡ Some w) × IsBench m w
leaves_by m None b v e bench same = cc
leaves_by m (Some x) None v e bench same = absurd same
leaves_by m (Some x) (Some w) v e bench same =
    let here : x ≡ v = cc in
    (w, refl, bench_stays m v w bench (subst (λ (z : World). SameBesidesOpens z w) here same))

tells_on : (m : ℕ) (s t : Point) → Tells m s → Leaves s t → Tells m t
tells_on m s t a leaves = let (w, e, b) = leaves_by m s.told t.told a.world a.told a.bench leaves in record { world = w; told = e; bench = b }

-- a request that reads leaves what stands
reads_leave : (target : Target) (p : Playing) (request : Asked) (reply : Reply) (s t : Point) (i j : ℕ) → target ≡ At Get (asked_at i j)
    → Makes target p.rules p.knows (fields_of request) (body_of request) (Ok reply) s t → Leaves s t
reads_leave target p request reply s t i j e makes = subst (λ (z : Target). Makes z p.rules p.knows (fields_of request) (body_of request) (Ok reply) s t) e makes

-- ---- valid runs

occurs_by : (m : ℕ) (s : Point) (w : World) → Tells m s → s.told ≡ Some w → w.tree ≡ rows m
occurs_by m s w a e = let same : a.world ≡ w = some_same a.world w (sym a.told ∙ e) in ap (λ (z : World). z.tree) (sym same) ∙ a.bench.tree
  where
    some_same : (v w : World) → Some v ≡ Some w → v ≡ w
    some_same v w e = cc

four_occur : (m : ℕ) (s t u v : Point) (w : World) → Tells m s → Tells m t → Tells m u → Tells m v → Occurs w (s ∷ t ∷ u ∷ v ∷ []) → w.tree ≡ rows m
four_occur m s t u v w a b c d (inl e) = occurs_by m s w a e
four_occur m s t u v w a b c d (inr (inl e)) = occurs_by m t w b e
four_occur m s t u v w a b c d (inr (inr (inl e))) = occurs_by m u w c e
four_occur m s t u v w a b c d (inr (inr (inr (inl e)))) = occurs_by m v w d e
four_occur m s t u v w a b c d (inr (inr (inr (inr e)))) = absurd e

valid : (m : ℕ) (rules : Rules) (k : _) (s t u v : Point) → m ≤ 400 → rules ≡ bench_rules → Tells m s → Tells m t → Tells m u → Tells m v → Valid rules k (s ∷ t ∷ u ∷ v ∷ [])
valid m rules k s t u v most same a b c d = record {
  told = (ap is_some a.told, (ap is_some b.told, (ap is_some c.told, (ap is_some d.told, tt))));
  apart = λ folds w occurs. ap no_twins (four_occur m s t u v w a b c d occurs) ∙ rows_have_no_twins m most;
  times = λ macos. let e : false ≡ true = sym (ap (λ (r : Rules). r.macos) same) ∙ macos in cc;
  links = λ macos. let e : false ≡ true = sym (ap (λ (r : Rules). r.macos) same) ∙ macos in cc;
  sound = λ macos. let e : false ≡ true = sym (ap (λ (r : Rules). r.macos) same) ∙ macos in cc;
}

-- ---- the reply

-- the reply by the tree, at rules and fields that are known
by_tree : (target : Target) (rules : Rules) (fields : _) (body : List ℕ) (s t : Point) (reply : Reply) (i j : ℕ) → target ≡ At Get (asked_at i j) → rules ≡ bench_rules → fields ≡ []
    → RepliesByTree target rules s t fields body reply → RepliesByTree (At Get (asked_at i j)) bench_rules s t [] body reply
by_tree target rules fields body s t reply i j e f g by =
    subst (λ (x : _). RepliesByTree (At Get (asked_at i j)) bench_rules s t x body reply) g
    (subst (λ (x : Rules). RepliesByTree (At Get (asked_at i j)) x s t fields body reply) f
    (subst (λ (x : Target). RepliesByTree x rules s t fields body reply) e by))

-- ---- polls

at_key : {A : Type 0} (k n : ℕ) (a : A) (f : ℕ → A) → n ≡ k → put k a f n ≡ a
at_key k n a f e = let here : (n == k) ≡ true = ap (λ z. z == k) e ∙ eq-eqb k k refl in rw here refl

gets_left : (body n : ℕ) (parts : List Part) (p q : Playing) → n ≡ body → Gets body parts p q → q.left n ≡ parts
gets_left body n parts p q e gets = ap (λ (z : Playing). z.left n) gets.is ∙ at_key body n parts p.left e

gets_rules : (body : ℕ) (parts : List Part) (p q : Playing) → Gets body parts p q → q.rules ≡ p.rules
gets_rules body parts p q gets = ap (λ (z : Playing). z.rules) gets.is

gets_replies : (body : ℕ) (parts : List Part) (p q : Playing) → Gets body parts p q → q.replies ≡ p.replies
gets_replies body parts p q gets = ap (λ (z : Playing). z.replies) gets.is

least : (a b c : ℕ) → a ≤ b → a ≤ c → min (min a b) c ≡ a
least a b c h g = grind arith

take_all : (n : ℕ) (xs : List ℕ) → n ≡ length xs → take n xs ≡ xs
take_all n xs e = rw e (ap (λ z. take (length xs) z) (sym (append-nil xs)) ∙ take_seam xs)
  where
    take_seam : (xs : List ℕ) → take (length xs) (xs ++ []) ≡ xs
    take_seam [] = refl
    take_seam (x ∷ xs) = ap (λ z. x ∷ z) (take_seam xs)

-- the piece of a whole file
whole_piece : (most n : ℕ) (piece : List ℕ) → suc n ≤ most → PieceOf true most (letters (suc n)) (suc n) piece → piece ≡ letters (suc n)
whole_piece most n piece fits (some, within, is, whole) =
    let len : length (letters (suc n)) ≡ suc n = letters_length (suc n) in
    let all : length piece ≡ suc n = whole refl ∙ least (suc n) most (length (letters (suc n))) fits (omega arith) in
    is ∙ take_all (length piece) (letters (suc n)) (all ∙ sym len)

piece_by : (most len : ℕ) (piece bytes : List ℕ) (b : Bool) → b ≡ true → 0 < len → len ≤ most → bytes ≡ letters len → PieceOf b most bytes len piece → piece ≡ letters len
piece_by most zero piece bytes b e some fits is of = absurd (omega arith)
piece_by most (suc n) piece bytes b e some fits is of =
    whole_piece most n piece fits (subst (λ (z : List ℕ). PieceOf true most z (suc n) piece) is (subst (λ (z : Bool). PieceOf z most bytes (suc n) piece) e of))

nothing_left : (len : ℕ) (number : ℕ) → moved number 0 len len [] ≡ []
nothing_left len number = let e : (len - len == 0) ≡ true = grind (arith, nat_tests) in rw e refl

pub record GaveAll (len : ℕ) (answer : Answer) (rest : List Part) : Type 0 where
  pub is : answer ≡ Piece (letters len)
  pub left : rest ≡ []

polls_whole : (m i j : ℕ) (t u : Point) (most : ℕ) (answer : Answer) (rest : List Part) → i < 8 → j < m → length_of i j ≤ most → Tells m t → t.whole ≡ true → u.faults ≡ 0
    → Polls t.told t.whole most (Rose t.faults u.faults) (slice (file_row m i j).number 0 (length_of i j) ∷ []) answer rest → GaveAll (length_of i j) answer rest
polls_whole m i j t u most answer rest it jt fits a whole none (inr (broken, gone, (inl less))) = absurd (omega arith)
polls_whole m i j t u most answer rest it jt fits a whole none (inr (broken, gone, (inr full))) = absurd (omega arith)
polls_whole m i j t u most answer rest it jt fits a whole none (inl (piece, is, (some, within, left, of))) =
    let all : piece ≡ letters (length_of i j) = piece_by most (length_of i j) piece (standing_from a.world (file_row m i j).number 0) t.whole whole (omega arith) fits
    (a.bench.bytes i j it jt) (of a.world a.told) in
    let n : length piece ≡ length_of i j = ap (λ (z : List ℕ). length z) all ∙ letters_length (length_of i j) in
    record {
      is = is ∙ ap (λ z. Piece z) all;
      left = left ∙ (ap (λ z. moved (file_row m i j).number 0 (length_of i j) z []) n ∙ nothing_left (length_of i j) (file_row m i j).number);
    }

-- ---- the steps of one file

-- what the steps of a file were answered
pub record FileAsked (i j body : ℕ) (old new : List Answer) : Type 0 where
  pub fields : List Field
  pub answers : new ≡ old ++ Replied 200 fields body ∷ Piece (letters (length_of i j)) ∷ End ∷ []

record Points (m : ℕ) (a : Stage) (t u : Point) (b : Stage) : Type 0 where
  before : Tells m a.at
  next : Tells m t
  then : Tells m u
  after : Tells m b.at

target_is : (m i j : ℕ) (a : Stage) (request : Asked) → m ≤ 400 → i < 8 → j < m → IsReady m a → IsAsking i j request → target_of a.playing.rules request ≡ At Get (asked_at i j)
target_is m i j a request most it jt ready asking =
    ap (λ (r : Rules). target_of r request) ready.rules ∙ asks_at i j request (few i it) (small j m jt most) asking

points : (m i j : ℕ) (a : Stage) (request : Asked) (body : ℕ) (old new : List Answer) (b : Stage) → m ≤ 400 → i < 8 → j < m → IsReady m a → IsAsking i j request
    → (x : ThreeMoves a request body old new b) → Points m a x.t x.u b
points m i j a request body old new b most it jt ready asking x =
    let st = x.asked.stands in
    let s : Tells m a.at = record { world = ready.world; told = ready.told; bench = ready.bench } in
    let t : Tells m x.t = tells_on m a.at x.t s (reads_leave (target_of a.playing.rules request) a.playing request st.reply a.at x.t i j (target_is m i j a request most it jt ready asking) st.makes) in
    let u : Tells m x.u = tells_on m x.t x.u t x.first.leaves in
    record { before = s; next = t; then = u; after = tells_on m x.u b.at u x.second.leaves }

-- the player is ready for the next file, and gave one reply more
pub record ReadyOn (m : ℕ) (a b : Stage) : Type 0 where
  pub ready : IsReady m b
  pub replies : b.playing.replies ≡ a.playing.replies + 1

pub ready_on : (m i j : ℕ) (a : Stage) (request : Asked) (body : ℕ) (old new : List Answer) (b : Stage) → m ≤ 400 → i < 8 → j < m → IsReady m a → IsAsking i j request
    → ThreeMoves a request body old new b → ReadyOn m a b
ready_on m i j a request body old new b most it jt ready asking x =
    let st = x.asked.stands in
    let p : Points m a x.t x.u b = points m i j a request body old new b most it jt ready asking x in
    let begun : Playing = record a.playing { replies = a.playing.replies + 1; knows = st.knows } in
    record {
      ready = record {
        world = p.after.world;
        told = p.after.told;
        bench = p.after.bench;
        whole = x.second.goes.whole (x.first.goes.whole (st.goes.whole ready.whole));
        rules = gets_rules body x.second.rest x.q b.playing x.second.gets ∙ (gets_rules body x.first.rest x.p x.q x.first.gets
            ∙ (gets_rules a.playing.replies st.reply.parts begun x.p st.gets ∙ ready.rules));
      };
      replies = gets_replies body x.second.rest x.q b.playing x.second.gets ∙ (gets_replies body x.first.rest x.p x.q x.first.gets
          ∙ gets_replies a.playing.replies st.reply.parts begun x.p st.gets);
    }

read_size : (p : Playing) → p.rules ≡ bench_rules → read_size_of p.rules.settings.read_buf_size ≡ 16384
read_size p e = ap (λ (r : Rules). read_size_of r.settings.read_buf_size) e

-- the right reply, where no fault was met
whole_reply : (m i j : ℕ) (s t : Point) (reply : Reply) → m ≤ 400 → i < 8 → j < m → Tells m s → t.faults ≡ 0
    → RepliesByTree (At Get (asked_at i j)) bench_rules s t [] [] reply → IsWhole (file_row m i j).number (length_of i j) reply
whole_reply m i j s t reply most it jt a none by =
    reply_is_whole m i j a.world reply s.faults t.faults most it jt a.bench none (by a.world a.told (meets_none m i j a.world a.bench))

piece_fits : (m i j most : ℕ) → m ≤ 400 → i < 8 → j < m → most ≡ 16384 → length_of i j ≤ most
piece_fits m i j most le it jt e = omega arith

-- at a body of which nothing is left its end is told
ends_at : (t u : Point) (most : ℕ) (left : List Part) (answer : Answer) (rest : List Part) → left ≡ [] → Polls t.told t.whole most (Rose t.faults u.faults) left answer rest → answer ≡ End
ends_at t u most left answer rest e polls = (subst (λ (z : List Part). Polls t.told t.whole most (Rose t.faults u.faults) z answer rest) e polls).0

pub file_asked : (m i j : ℕ) (a : Stage) (request : Asked) (body : ℕ) (old new : List Answer) (b : Stage) → m ≤ 400 → i < 8 → j < m → IsReady m a → IsAsking i j request
    → a.playing.replies ≡ body → b.at.faults ≡ 0 → ThreeMoves a request body old new b → FileAsked i j body old new
file_asked m i j a request body old new b most it jt ready asking same none x =
    let st = x.asked.stands in
    let p : Points m a x.t x.u b = points m i j a request body old new b most it jt ready asking x in
    let begun : Playing = record a.playing { replies = a.playing.replies + 1; knows = st.knows } in
    let f : x.t.faults ≤ x.u.faults = x.first.goes.faults in
    let g : x.u.faults ≤ b.at.faults = x.second.goes.faults in
    let none_t : x.t.faults ≡ 0 = omega arith in
    let none_u : x.u.faults ≡ 0 = omega arith in
    let tree = by_tree (target_of a.playing.rules request) a.playing.rules (fields_of request) (body_of request) a.at x.t st.reply i j (target_is m i j a request most it jt ready asking) ready.rules asking.fields
    (x.asked.tree (valid m a.playing.rules a.playing.knows a.at x.t x.u b.at most ready.rules p.before p.next p.then p.after)) in
    let reply : IsWhole (file_row m i j).number (length_of i j) st.reply = whole_reply m i j a.at x.t st.reply most it jt p.before none_t tree in
    let left : x.p.left body ≡ slice (file_row m i j).number 0 (length_of i j) ∷ [] = gets_left a.playing.replies body st.reply.parts begun x.p (sym same) st.gets ∙ reply.parts in
    let rules : x.p.rules ≡ bench_rules = gets_rules a.playing.replies st.reply.parts begun x.p st.gets ∙ ready.rules in
    let size : ℕ = read_size_of x.p.rules.settings.read_buf_size in
    let gave : GaveAll (length_of i j) x.piece x.first.rest = polls_whole m i j x.t x.u size x.piece x.first.rest it jt
    (piece_fits m i j size most it jt (read_size x.p rules)) p.next (st.goes.whole ready.whole) none_u
    (subst (λ (z : List Part). Polls x.t.told x.t.whole size (Rose x.t.faults x.u.faults) z x.piece x.first.rest) left x.first.gives) in
    let gone : x.q.left body ≡ [] = gets_left body body x.first.rest x.p x.q refl x.first.gets ∙ gave.left in
    let end : x.end ≡ End = ends_at x.u b.at (read_size_of x.q.rules.settings.read_buf_size) (x.q.left body) x.end x.second.rest gone x.second.gives in
    let answer : x.reply ≡ Replied 200 st.reply.fields body = st.is ∙ ap₂ (λ (status body : ℕ). Replied status st.reply.fields body) reply.status same in
    record {
      fields = st.reply.fields;
      answers = x.answers ∙ ap (λ z. old ++ z) (ap₂ (λ (x : Answer) (xs : List Answer). x ∷ xs) answer (ap₂ (λ (y z : Answer). y ∷ z ∷ []) gave.is end));
    }
