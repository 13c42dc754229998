-- A file's answer, judged over a told world: what comes of the file is a front of what stands there.
use Rattle.std.proofs.Common.{◌≡◌, ◌<◌, ◌≤◌, ◌+◌, ◌-◌, ◌^◌, ◌==◌, ◌&&◌, ◌||◌, ◌++◌, ℕ, List, [], ◌∷◌, length, take, drop, replicate, Bool, true, false, cond, not, codes, decimal, Option, None, Some, IfSome, refl, sym, ap, subst, ◌∙◌, arith, append-nil, append_assoc, inl, inr, nat_lt, nat_le, true≢false, eqb-true}
use Rattle.std.specs.Str.{all_ascii_digits}
use Rattle.std.specs.Str.Parse.{digits_value}
use Rattle.std.proofs.lemmas.Fmt.{decimal_is_IsNumeral}
use Rattle.std.proofs.lemmas.Bool.{eqb-false}
use Rattle.std.proofs.lemmas.Slice.Eq.{bytes_eq-Decides}
use Rattle.dav_core.specs.declared.tree.Row.{Row}
use Rattle.dav_core.specs.declared.method.DavMethod.TheVariants.{Get}
use Rattle.dav_core.specs.DavPath.{last_name, type_of_last}
use Rattle.dav_core.specs.Info.{known_time, tag_of}
use Rattle.dav_core.specs.Path.{Names}
use Rattle.dav_core.specs.World.{World, bytes_of}
use Rattle.dav_model.specs.Announced.{value_of}
use Rattle.dav_model.specs.Bodies.{slice}
use Rattle.dav_model.specs.Conditions.{Fields}
use Rattle.dav_model.specs.declared.sent.Sent.{Sent}
use Rattle.dav_model.specs.declared.sent.Sent.TheVariants.{All, Alone, One}
use Rattle.dav_model.specs.Head.{Reply, Stood, quoted, sent_of, sent_status, sent_reply, stood_in, slice_where}
use Rattle.dav_fetch.specs.declared.copied.Kept.{Kept}
use Rattle.dav_fetch.specs.declared.peer.Got.{Got}
use Rattle.dav_fetch.specs.Asking.{Awaits, awaits, whole, rest, same, asked_for, file_path}
use Rattle.dav_fetch.specs.Copy.{IsFileAt, IsFrontOf, IsOfWorld, tag_in, tag_value}
use Rattle.dav_fetch.specs.Mirroring.{AreShort, IsGood}
use Rattle.dav_fetch.specs.Judging.{is_rest_of, Use, gives, keeps, refuses, spoils, use_of, grown, replaced, new_file, number_said, strong_said, if_strong}
use Rattle.dav_fetch.specs.Peer.{RepliesOf, body_in}
use Rattle.dav_fetch.proofs.Sending.{whole_sent, rest_sent, same_sent, has_text}
use Rattle.dav_fetch.proofs.Served.{Served, served, is_awaited}
use Rattle.dav_core.proofs.TagLaws.{tag_complete}
use Rattle.dav_core.specs.TagBytes.{info_has_tag_bytes}
use Rattle.dav_core.specs.Tags.{HasTagBytes, IsTagText}
use Rattle.std.proofs.Math.Seq.{take-append_seam}
use Rattle.std.proofs.lemmas.List.{length-append, length-drop, take_all, take-append-drop, nil_from_length}

-- the reply that sends this of a file
abbrev pub reply_of : World → Names → Row → Option (List ℕ) → Sent → Reply
reply_of w names row date sent = sent_reply true (type_of_last (last_name names)) (stood_in w row) date sent

-- ---- its head

abbrev pub quoted_of : Option (List ℕ) → Option (List ℕ)
quoted_of None = None
quoted_of (Some t) = Some (quoted t)

pub tag_behind : (type : List ℕ) (tag date : Option (List ℕ)) (stood : Stood) → stood.tag ≡ tag → value_of (codes "etag") (sent_reply true type stood date All).fields ≡ quoted_of tag
tag_behind type None None stood is = rw is refl
tag_behind type None (Some d) stood is = rw is refl
tag_behind type (Some t) date stood is = rw is refl

-- ---- a file that comes whole

-- the tag that is kept is that of the world
tag_kept : (tag : Option (List ℕ)) → HasTagBytes tag → strong_said (quoted_of tag) ≡ tag_value tag
tag_kept None text = refl
tag_kept (Some t) text = ap (if_strong (quoted t)) (tag_complete (quoted t) (record { weak = false; tag = t }) (record { bytes = text; same = refl }))

row_tag : (w : World) (row : Row) → HasTagBytes (tag_of row.kind row.number (length (bytes_of w row.number)) (known_time row.time))
row_tag w row = info_has_tag_bytes (record {
  kind = row.kind;
  len = length (bytes_of w row.number);
  number = row.number;
  modified = Some row.time;
  created = None;
  accessed = None;
  changed = None;
  exec = false;
})

-- the number that is read of a length is that length
number_kept : (len n : ℕ) → len < 2 ^ 64 → number_said (Some (decimal len)) ≡ Some n → n ≡ len
number_kept len n small e = by (nat_lt 0 (length (decimal len)) && (nat_le (length (decimal len)) 19 && all_ascii_digits (decimal len))) e
  where
    by : (t : Bool) → cond t (Some (digits_value 10 (decimal len))) None ≡ Some n → n ≡ len
    by true f = let same : digits_value 10 (decimal len) ≡ n = cc in sym same ∙ (decimal_is_IsNumeral len small).1
    by false f = cc

-- What came of a body is a front of it.
came_front : (came more : List ℕ) (n : ℕ) → length (came ++ more) ≤ n → take n came ≡ came
came_front came more n fits = take_all n came (omega (arith, fits, length-append came more))

front_of : (kept came more bytes : List ℕ) → bytes ≡ kept ++ (came ++ more) → kept ++ came ≡ take (length (kept ++ came)) bytes
front_of kept came more bytes is = sym (ap (take (length (kept ++ came))) (is ∙ sym (append_assoc kept came more)) ∙ take-append_seam (kept ++ came) more)

-- the body of a slice is what stands there
pub slice_bytes : (w : World) (number start count : ℕ) → start + count ≡ length (bytes_of w number) → body_in w (slice_where number start count) ≡ drop start (bytes_of w number)
slice_bytes w number start count fits = by (count == 0) refl
  where
    rest_is : length (drop start (bytes_of w number)) ≡ count
    rest_is = length-drop start (bytes_of w number) ∙ omega (arith, fits)

    by : (t : Bool) → (count == 0) ≡ t → body_in w (cond t [] (slice number start count ∷ [])) ≡ drop start (bytes_of w number)
    by true e = sym (nil_from_length (drop start (bytes_of w number)) (rest_is ∙ eqb-true count 0 e))
    by false e = append-nil (take count (drop start (bytes_of w number) ++ replicate count 0))
        ∙ ap (λ k. take k (drop start (bytes_of w number) ++ replicate count 0)) (sym rest_is) ∙ take-append_seam (drop start (bytes_of w number)) (replicate count 0)

abbrev OfWorld : World → List ℕ → Use → Type 0
OfWorld w came (gives f n) = IsOfWorld w (grown f n came)
OfWorld w came keeps = Unit {0}
OfWorld w came refuses = Unit {0}
OfWorld w came spoils = Unit {0}

-- Whole: the announced length, the tag and the bytes are those of the world.
from_whole : (w : World) (names : Names) (row : Row) (date : Option (List ℕ)) (f : Kept) (n : ℕ) (came more : List ℕ) → IsFileAt w names row → length (bytes_of w row.number) < 2 ^ 64
    → replaced names (reply_of w names row date All).fields ≡ gives f n → body_in w (reply_of w names row date All).parts ≡ came ++ more
    → IsOfWorld w (grown f n came)
from_whole w names row date f n came more at small e body = by (number_said (Some (decimal (length (bytes_of w row.number))))) refl e
  where
    bytes_are : bytes_of w row.number ≡ came ++ more
    bytes_are = sym (slice_bytes w row.number 0 (length (bytes_of w row.number)) (omega arith)) ∙ body

    tag_are : strong_said (value_of (codes "etag") (reply_of w names row date All).fields) ≡ tag_in w row
    tag_are = ap strong_said (tag_behind (type_of_last (last_name names)) _ date (stood_in w row) refl) ∙ tag_kept _ (row_tag w row)

    made : (m : ℕ) → m ≡ length (bytes_of w row.number)
        → IsOfWorld w (grown (record { path = names; tag = strong_said (value_of (codes "etag") (reply_of w names row date All).fields); len = m; bytes = [] }) m came)
    made m is = record {
      row = row;
      at = at;
      tag = tag_are;
      front = record { len = is; front = rw (came_front came more m (subst (λ k. length (came ++ more) ≤ k) (sym is) (subst (λ bs. length (came ++ more) ≤ length bs) (sym bytes_are) (omega arith)))) (front_of [] came more (bytes_of w row.number) bytes_are) };
    }

    by : (o : Option ℕ) → number_said (Some (decimal (length (bytes_of w row.number)))) ≡ o → new_file names (reply_of w names row date All).fields o ≡ gives f n → IsOfWorld w (grown f n came)
    by None q g = cc
    by (Some m) q g =
        let is : m ≡ length (bytes_of w row.number) = number_kept (length (bytes_of w row.number)) m small q in
        subst (OfWorld w came) g (made m is)

-- The rest: behind what was kept comes what stands behind it.
from_rest : (w : World) (names : Names) (row : Row) (k : Kept) (came more : List ℕ) → IsFileAt w names row → k.path ≡ names → k.tag ≡ tag_in w row → IsFrontOf k (bytes_of w row.number)
    → length k.bytes < k.len → body_in w (slice_where row.number (length k.bytes) (length (bytes_of w row.number) - length k.bytes)) ≡ came ++ more
    → IsOfWorld w (grown k (k.len - length k.bytes) came)
from_rest w names row k came more at path tag front inside body = record {
  row = row;
  at = subst (λ p. IsFileAt w p row) (sym path) at;
  tag = tag;
  front = record { len = front.len; front = rw (came_front came more (k.len - length k.bytes) fits) (front_of k.bytes came more (bytes_of w row.number) bytes_are) };
}
  where
    behind : drop (length k.bytes) (bytes_of w row.number) ≡ came ++ more
    behind = sym (slice_bytes w row.number (length k.bytes) (length (bytes_of w row.number) - length k.bytes) (omega (arith, front.len, inside))) ∙ body

    fits : length (came ++ more) ≤ k.len - length k.bytes
    fits = subst (λ bs. length bs ≤ k.len - length k.bytes) behind (omega (arith, length-drop (length k.bytes) (bytes_of w row.number), front.len))

    bytes_are : bytes_of w row.number ≡ k.bytes ++ (came ++ more)
    bytes_are = sym (take-append-drop (length k.bytes) (bytes_of w row.number)) ∙ ap (λ z. z ++ drop (length k.bytes) (bytes_of w row.number)) (sym front.front) ∙ ap (λ z. k.bytes ++ z) behind

-- ---- the three requests

pub record HasTag (w : World) (names : Names) (k : Kept) : Type 0 where
  pub tag : List ℕ
  pub is : k.tag ≡ quoted tag
  pub text : IsTagText tag
  pub good : IsGood w names k

abbrev pub GoodFor : World → Names → Awaits → Type 0
GoodFor w names whole = Unit {0}
GoodFor w names (rest k) = HasTag w names k × (length k.bytes < k.len)
GoodFor w names (same k) = HasTag w names k

pub good_for : (w : World) (names : Names) (old : Option Kept) → IfSome old (IsGood w names) → GoodFor w names (awaits old)
good_for w names None good = tt
good_for w names (Some k) good = by (length k.tag == 0) (length k.bytes == k.len) (length k.bytes == 0) refl refl
  where
    has_tag : (length k.tag == 0) ≡ false → HasTag w names k
    has_tag e = elim good.kept.tag [
      | inl none ↦ absurd (true≢false (sym (ap (λ (t : List ℕ). length t == 0) none) ∙ e))
      | inr some ↦ record { tag = some.0; is = some.2; text = some.1; good = good }
    ]

    by : (a b c : Bool) → (length k.tag == 0) ≡ a → (length k.bytes == k.len) ≡ b → GoodFor w names (cond a whole (cond b (same k) (cond c whole (rest k))))
    by true b c e f = tt
    by false true c e f = has_tag e
    by false false true e f = tt
    by false false false e f = (has_tag e, omega (arith, good.kept.within, eqb-false (length k.bytes) k.len f))

text_value : (o : Option (List ℕ)) (tag : List ℕ) → has_text o tag ≡ true → tag_value o ≡ quoted tag
text_value None tag e = cc
text_value (Some t) tag e = ap quoted (sym ((bytes_eq-Decides tag t).0 e))

pub front_there : (w : World) (names : Names) (row : Row) (k : Kept) (h : HasTag w names k) → IsFileAt w names row → has_text (stood_in w row).tag h.tag ≡ true
    → (k.tag ≡ tag_in w row) × IsFrontOf k (bytes_of w row.number)
front_there w names row k h at e =
    let same : tag_in w row ≡ k.tag = text_value (stood_in w row).tag h.tag e ∙ sym h.is in
    (sym same, h.good.faithful (λ none. not_empty h.tag (sym h.is ∙ none)) row (subst (λ p. IsFileAt w p row) (sym h.good.path) at) same)
  where
    not_empty : (t : List ℕ) → quoted t ≡ [] → ⊥
    not_empty t e = cc

-- a reply that sends the whole file
when_whole : (w : World) (names : Names) (fields : Fields) (reply : Reply) (got : Got) (s : Served w names fields reply) (f : Kept) (n : ℕ) (left came more : List ℕ)
    → ((row : Row) → IsFileAt w names row → length (bytes_of w row.number) < 2 ^ 64) → got.headers ≡ reply.fields → left ≡ body_in w reply.parts → left ≡ came ++ more
    → sent_of Get fields (stood_in w s.row) ≡ All → replaced names got.headers ≡ gives f n → IsOfWorld w (grown f n came)
when_whole w names fields reply got s f n left came more small headers body pieces all e =
    let is : reply ≡ reply_of w names s.row s.sent.0 All = s.sent.2 ∙ ap (λ x. reply_of w names s.row s.sent.0 x) all in
    from_whole w names s.row s.sent.0 f n came more s.at (small s.row s.at)
    (sym (ap (replaced names) (headers ∙ ap (λ (r : Reply). r.fields) is)) ∙ e)
    (sym (body ∙ ap (λ (r : Reply). body_in w r.parts) is) ∙ pieces)

-- the status of what is sent
pub sent_as : (w : World) (names : Names) (fields : Fields) (reply : Reply) (s : Served w names fields reply) (sent : Sent) → sent_of Get fields (stood_in w s.row) ≡ sent → reply.status ≡ sent_status sent
sent_as w names fields reply s sent e = ap (λ (r : Reply). r.status) s.sent.2 ∙ ap sent_status e

is_ok : (status : ℕ) → (status == 200) ≡ true → is_awaited status ≡ true
is_ok status e = ap (λ t. t || (status == 206 || status == 304)) e

is_partial : (status : ℕ) → (status == 206) ≡ true → is_awaited status ≡ true
is_partial status e = ap is_awaited (eqb-true status 206 e)

two_statuses : {A : Type 0} (a b c : ℕ) → (a == b) ≡ true → a ≡ c → (c == b) ≡ false → A
two_statuses a b c e is not = absurd (true≢false (sym e ∙ ap (λ x. x == b) is ∙ not))

-- What comes of a file is a front of what its path has in the world of the reply, with the tag and the length there.
step_for : (w : World) (names : Names) (a : Awaits) (good : GoodFor w names a) (rose : Type 0) (got : Got) (left came more : List ℕ) (f : Kept) (n : ℕ)
    → ((row : Row) → IsFileAt w names row → length (bytes_of w row.number) < 2 ^ 64) → RepliesOf w (file_path names) (asked_for a) rose got left
    → use_of names a got.status got.headers ≡ gives f n → left ≡ came ++ more → IsOfWorld w (grown f n came)
step_for w names whole good rose got left came more f n small r e pieces = by (got.status == 200) refl e
  where
    by : (t : Bool) → (got.status == 200) ≡ t → cond t (replaced names got.headers) refuses ≡ gives f n → IsOfWorld w (grown f n came)
    by false q g = cc
    by true q g =
        let s = served w r.fields names rose r.reply (is_ok r.reply.status (ap (λ x. x == 200) (sym r.status) ∙ q)) r.right in
        when_whole w names r.fields r.reply got s f n left came more small r.headers r.body pieces (whole_sent r.fields (stood_in w s.row) r.carries) g
step_for w names (same k) good rose got left came more f n small r e pieces = by (got.status == 200) (got.status == 304) refl e
  where
    by : (t u : Bool) → (got.status == 200) ≡ t → cond t (replaced names got.headers) (cond u keeps refuses) ≡ gives f n → IsOfWorld w (grown f n came)
    by false true q g = cc
    by false false q g = cc
    by true u q g =
        let s = served w r.fields names rose r.reply (is_ok r.reply.status (ap (λ x. x == 200) (sym r.status) ∙ q)) r.right in
        sent s (has_text (stood_in w s.row).tag good.tag) (same_sent r.fields (stood_in w s.row) k good.tag good.is good.text r.carries)
      where
        sent : (s : Served w names r.fields r.reply) (b : Bool) → sent_of Get r.fields (stood_in w s.row) ≡ cond b (Alone 304) All → IsOfWorld w (grown f n came)
        sent s true is = two_statuses got.status 200 304 q (r.status ∙ sent_as w names r.fields r.reply s (Alone 304) is) refl
        sent s false is = when_whole w names r.fields r.reply got s f n left came more small r.headers r.body pieces is g
step_for w names (rest k) good rose got left came more f n small r e pieces = by (got.status == 200) (got.status == 206) (is_rest_of k got.headers) refl refl e
  where
    sends : (s : Served w names r.fields r.reply) → sent_of Get r.fields (stood_in w s.row)
        ≡ cond (has_text (stood_in w s.row).tag good.0.tag) (One (record { start = length k.bytes; count = (stood_in w s.row).len - length k.bytes })) All
    sends s = rest_sent r.fields (stood_in w s.row) k good.0.tag good.0.is good.0.text r.carries inside (omega (arith, good.1, good.0.good.small))
      where
        inside : has_text (stood_in w s.row).tag good.0.tag ≡ true → length k.bytes < length (bytes_of w s.row.number)
        inside h = let there = front_there w names s.row k good.0 s.at h in omega (arith, good.1, there.1.len)

    by : (t u v : Bool) → (got.status == 200) ≡ t → (got.status == 206) ≡ u
        → cond t (replaced names got.headers) (cond u (cond v (gives k (k.len - length k.bytes)) spoils) refuses) ≡ gives f n → IsOfWorld w (grown f n came)
    by false false v q p g = cc
    by false true false q p g = cc
    by true u v q p g =
        let s = served w r.fields names rose r.reply (is_ok r.reply.status (ap (λ x. x == 200) (sym r.status) ∙ q)) r.right in
        sent s (has_text (stood_in w s.row).tag good.0.tag) (sends s)
      where
        sent : (s : Served w names r.fields r.reply) (b : Bool) → sent_of Get r.fields (stood_in w s.row) ≡ cond b (One (record { start = length k.bytes; count = (stood_in w s.row).len - length k.bytes })) All
            → IsOfWorld w (grown f n came)
        sent s true is = two_statuses got.status 200 206 q (r.status ∙ sent_as w names r.fields r.reply s (One _) is) refl
        sent s false is = when_whole w names r.fields r.reply got s f n left came more small r.headers r.body pieces is g
    by false true true q p g =
        let s = served w r.fields names rose r.reply (is_partial r.reply.status (ap (λ x. x == 206) (sym r.status) ∙ p)) r.right in
        sent s (has_text (stood_in w s.row).tag good.0.tag) refl (sends s)
      where
        sent : (s : Served w names r.fields r.reply) (b : Bool) → has_text (stood_in w s.row).tag good.0.tag ≡ b
            → sent_of Get r.fields (stood_in w s.row) ≡ cond b (One (record { start = length k.bytes; count = (stood_in w s.row).len - length k.bytes })) All
            → IsOfWorld w (grown f n came)
        sent s false h is = two_statuses got.status 206 200 p (r.status ∙ sent_as w names r.fields r.reply s All is) refl
        sent s true h is =
            let there = front_there w names s.row k good.0 s.at h in
            let reply_is : r.reply ≡ reply_of w names s.row s.sent.0 (One (record { start = length k.bytes; count = length (bytes_of w s.row.number) - length k.bytes })) =
            s.sent.2 ∙ ap (λ x. reply_of w names s.row s.sent.0 x) is in
            subst (OfWorld w came) g (from_rest w names s.row k came more s.at good.0.good.path there.0 there.1 good.1
            (sym (r.body ∙ ap (λ (x : Reply). body_in w x.parts) reply_is) ∙ pieces))

pub step : (w : World) (names : Names) (old : Option Kept) → IfSome old (IsGood w names) → (rose : Type 0) (got : Got) (left came more : List ℕ) (f : Kept) (n : ℕ)
    → AreShort w names → RepliesOf w (file_path names) (asked_for (awaits old)) rose got left
    → use_of names (awaits old) got.status got.headers ≡ gives f n → left ≡ came ++ more → IsOfWorld w (grown f n came)
step w names old good = step_for w names (awaits old) (good_for w names old good)
