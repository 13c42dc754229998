-- A file's answer over a still world is good: it gives as many bytes as its body has, or the file is kept.
use Rattle.std.proofs.Common.{◌≡◌, ◌<◌, ◌≤◌, ◌+◌, ◌-◌, ◌^◌, ◌==◌, ◌&&◌, ◌++◌, ℕ, List, length, codes, decimal, Bool, true, false, cond, nat_le, nat_lt, Option, None, Some, IfSome, Ok, refl, sym, ap, subst, ◌∙◌, arith}
use Rattle.std.specs.Str.{all_ascii_digits}
use Rattle.std.specs.Str.Parse.{digits_value}
use Rattle.std.proofs.lemmas.Bool.{and_from}
use Rattle.std.proofs.lemmas.Bool.Decides.{nat_tests}
use Rattle.std.proofs.lemmas.Fmt.{decimal_is_IsNumeral, decimal_nonempty, digits_decimal, length-decimal-le}
use Rattle.std.proofs.lemmas.List.{length-drop}
use Rattle.std.proofs.lemmas.Slice.Eq.{bytes_eq-Decides}
use Rattle.dav_io.proofs.Digits.{own}
use Rattle.dav_core.specs.declared.method.DavMethod.TheVariants.{Get}
use Rattle.dav_core.specs.declared.tree.Kind.TheVariants.{File}
use Rattle.dav_core.specs.declared.tree.Row.{Row}
use Rattle.dav_core.specs.DavPath.{last_name, type_of_last}
use Rattle.dav_core.specs.Path.{Names}
use Rattle.dav_core.specs.Tree.{look}
use Rattle.dav_core.specs.World.{World, bytes_of}
use Rattle.dav_model.specs.Announced.{value_of}
use Rattle.dav_model.specs.Conditions.{Fields}
use Rattle.dav_model.specs.declared.ranges.Slice.{Slice}
use Rattle.dav_model.specs.declared.sent.Sent.{Sent}
use Rattle.dav_model.specs.declared.sent.Sent.TheVariants.{All, Alone, One}
use Rattle.dav_model.specs.Due.{IsHead, IsRight, query}
use Rattle.dav_model.specs.Finding.{shown_in}
use Rattle.dav_model.specs.Head.{IsSent, Reply, Stood, quoted, sent_of, sent_reply, span_text, stood_in}
use Rattle.dav_model.proofs.PlainWalks.{plain_resolved}
use Rattle.dav_fetch.specs.declared.copied.Kept.{Kept}
use Rattle.dav_fetch.specs.declared.peer.Got.{Got}
use Rattle.dav_fetch.specs.Asking.{Awaits, asked_for, awaits, file_path, rest, same, whole}
use Rattle.dav_fetch.specs.Copy.{IsFileAt}
use Rattle.dav_fetch.specs.Judging.{Use, gives, has_number, has_value, is_rest_of, keeps, new_file, number_said, refuses, replaced, rest_use, span_behind, spoils, use_of}
use Rattle.dav_fetch.specs.Mirroring.{IsGood}
use Rattle.dav_fetch.specs.Peer.{RepliesOf, body_in, peer_rules, peer_settings}
use Rattle.dav_fetch.proofs.DirServed.{is_head}
use Rattle.dav_fetch.proofs.Sending.{has_text, rest_sent, same_sent, whole_sent}
use Rattle.dav_fetch.proofs.Served.{asked, due_is, due_kinds}
use Rattle.dav_fetch.proofs.Stepping.{GoodFor, front_there, good_for, quoted_of, reply_of, slice_bytes}

-- It gives just so many bytes, or keeps the file.
abbrev pub IsWorth : List ℕ → Use → Type 0
IsWorth left (gives f n) = n ≡ length left
IsWorth left keeps = Unit {0}
IsWorth left refuses = ⊥
IsWorth left spoils = ⊥

-- ---- what is sent of a file

file_sent : (w : World) (fields : Fields) (names : Names) (row : Row) (rose : Type 0) (reply : Reply) → look w.tree names ≡ Ok row → row.kind ≡ File → (rose → ⊥)
    → IsRight (query peer_settings fields Get (file_path names)) (shown_in peer_rules w) rose reply → IsSent Get (file_path names) (stood_in w row) (sent_of Get fields (stood_in w row)) reply
file_sent w fields names row rose reply there kind none right =
    subst (λ d. IsHead (asked fields names) d reply)
    (due_is w fields names (Ok row) (ap (look w.tree) (plain_resolved peer_settings w.tree names) ∙ there) ∙ ap (λ k. due_kinds k (file_path names) (stood_in w row)) kind)
    (is_head (asked fields names) (shown_in peer_rules w) rose reply none right)

-- ---- numbers that are written and read

pub said_back : (n : ℕ) → n < 10 ^ 19 → number_said (Some (decimal n)) ≡ Some n
said_back n small =
    let fits : n < 2 ^ 64 = omega (arith, small) in
    ap (λ t. cond t (Some (digits_value 10 (decimal n))) None) (tests fits) ∙ ap (λ k. Some k) (decimal_is_IsNumeral n fits).1
  where
    below : (a b : ℕ) → a < b → nat_lt a b ≡ true
    below a b h = grind (arith, nat_tests)

    within : (a b : ℕ) → a ≤ b → nat_le a b ≡ true
    within a b h = grind (arith, nat_tests)

    tests : n < 2 ^ 64 → (nat_lt 0 (length (decimal n)) && (nat_le (length (decimal n)) 19 && all_ascii_digits (decimal n))) ≡ true
    tests fits = and_from _ _ (below 0 (length (decimal n)) (decimal_nonempty n fits))
        (and_from _ _ (within (length (decimal n)) 19 (length-decimal-le 19 n (omega arith) small fits)) (digits_decimal own n fits))

-- ---- the whole file

all_worth : (w : World) (names : Names) (row : Row) (date : Option (List ℕ)) → length (bytes_of w row.number) < 10 ^ 19
    → IsWorth (body_in w (reply_of w names row date All).parts) (replaced names (reply_of w names row date All).fields)
all_worth w names row date small =
    subst (λ o. IsWorth (body_in w (reply_of w names row date All).parts) (new_file names (reply_of w names row date All).fields o)) (sym (said_back (length (bytes_of w row.number)) small))
    (sym (ap length (slice_bytes w row.number 0 (length (bytes_of w row.number)) (omega arith))))

-- ---- the rest of a file

tag_of_rest : (type : List ℕ) (tag date : Option (List ℕ)) (stood : Stood) (part : Slice) → stood.tag ≡ tag → value_of (codes "etag") (sent_reply true type stood date (One part)).fields ≡ quoted_of tag
tag_of_rest type None None stood part is = rw is refl
tag_of_rest type None (Some d) stood part is = rw is refl
tag_of_rest type (Some t) date stood part is = rw is refl

quoted_text : (o : Option (List ℕ)) (tag : List ℕ) → has_text o tag ≡ true → quoted_of o ≡ quoted_of (Some tag)
quoted_text None tag e = cc
quoted_text (Some t) tag e = ap (λ x. quoted_of (Some x)) (sym ((bytes_eq-Decides tag t).0 e))

value_is : (o : Option (List ℕ)) (value : List ℕ) → o ≡ Some value → has_value o value ≡ true
value_is o value e = ap (λ x. has_value x value) e ∙ (bytes_eq-Decides value value).1 refl

number_is : (o : Option ℕ) (n : ℕ) → o ≡ Some n → has_number o n ≡ true
number_is o n e = ap (λ x. has_number x n) e ∙ itself n
  where
    itself : (n : ℕ) → (n == n) ≡ true
    itself n = grind (arith, nat_tests)

abbrev part_behind : World → Row → Kept → Slice
part_behind w row k = record { start = length k.bytes; count = length (bytes_of w row.number) - length k.bytes }

span_is : (w : World) (row : Row) (k : Kept) → k.len ≡ length (bytes_of w row.number) → length k.bytes < k.len
    → codes "bytes " ++ span_text (length (bytes_of w row.number)) (part_behind w row k) ≡ span_behind k
span_is w row k len inside =
    ap (λ n. codes "bytes " ++ (decimal (length k.bytes) ++ (codes "-" ++ (decimal (length k.bytes + (n - length k.bytes) - 1) ++ (codes "/" ++ decimal n))))) (sym len)
    ∙ ap (λ n. codes "bytes " ++ (decimal (length k.bytes) ++ (codes "-" ++ (decimal n ++ (codes "/" ++ decimal k.len))))) (last (length k.bytes) k.len inside)
  where
    last : (a b : ℕ) → a < b → a + (b - a) - 1 ≡ b - 1
    last a b h = omega arith

rest_worth : (w : World) (names : Names) (row : Row) (date : Option (List ℕ)) (k : Kept) (tag : List ℕ) → length (bytes_of w row.number) < 10 ^ 19 → k.tag ≡ quoted tag
    → has_text (stood_in w row).tag tag ≡ true → k.len ≡ length (bytes_of w row.number) → length k.bytes < k.len
    → IsWorth (body_in w (reply_of w names row date (One (part_behind w row k))).parts) (rest_use k (reply_of w names row date (One (part_behind w row k))).fields)
rest_worth w names row date k tag small is has len inside =
    subst (λ t. IsWorth (body_in w (reply_of w names row date (One (part_behind w row k))).parts) (cond t (gives k (k.len - length k.bytes)) spoils)) (sym rest_is)
    (sym (ap length (slice_bytes w row.number (length k.bytes) (length (bytes_of w row.number) - length k.bytes) (omega (arith, len, inside))) ∙ length-drop (length k.bytes) (bytes_of w row.number)
    ∙ ap (λ n. n - length k.bytes) (sym len)))
  where
    rest_is : is_rest_of k (reply_of w names row date (One (part_behind w row k))).fields ≡ true
    rest_is = and_from _ _
        (value_is _ k.tag (tag_of_rest (type_of_last (last_name names)) (stood_in w row).tag date (stood_in w row) (part_behind w row k) refl ∙ quoted_text (stood_in w row).tag tag has ∙ ap (λ t. Some t) (sym is)))
        (and_from _ _ (value_is _ (span_behind k) (ap (λ t. Some t) (span_is w row k len inside)))
        (number_is _ (k.len - length k.bytes) (said_back (length (bytes_of w row.number) - length k.bytes) (omega (arith, small)) ∙ ap (λ n. Some (n - length k.bytes)) (sym len))))

-- ---- the three requests

-- It is of what was sent.
sent_worth : (w : World) (names : Names) (a : Awaits) (row : Row) (got : Got) (left : List ℕ) (reply : Reply) (date : Option (List ℕ)) (sent : Sent) → got.status ≡ reply.status → got.headers ≡ reply.fields
    → left ≡ body_in w reply.parts → reply ≡ reply_of w names row date sent
    → IsWorth (body_in w (reply_of w names row date sent).parts) (use_of names a (reply_of w names row date sent).status (reply_of w names row date sent).fields)
    → IsWorth left (use_of names a got.status got.headers)
sent_worth w names a row got left reply date sent status headers body is worth =
    subst (λ l. IsWorth l (use_of names a got.status got.headers)) (sym (body ∙ ap (λ (r : Reply). body_in w r.parts) is))
    (subst (λ s. IsWorth (body_in w (reply_of w names row date sent).parts) (use_of names a s got.headers)) (sym (status ∙ ap (λ (r : Reply). r.status) is))
    (subst (λ f. IsWorth (body_in w (reply_of w names row date sent).parts) (use_of names a (reply_of w names row date sent).status f)) (sym (headers ∙ ap (λ (r : Reply). r.fields) is)) worth))

worth_for : (w : World) (names : Names) (row : Row) (a : Awaits) (rose : Type 0) (got : Got) (left : List ℕ) → IsFileAt w names row → row.kind ≡ File → length (bytes_of w row.number) < 10 ^ 19
    → (rose → ⊥) → GoodFor w names a → RepliesOf w (file_path names) (asked_for a) rose got left → IsWorth left (use_of names a got.status got.headers)
worth_for w names row whole rose got left at kind small none good r =
    let sent = file_sent w r.fields names row rose r.reply at.there kind none r.right in
    sent_worth w names whole row got left r.reply sent.0 All r.status r.headers r.body
    (sent.2 ∙ ap (λ x. reply_of w names row sent.0 x) (whole_sent r.fields (stood_in w row) r.carries)) (all_worth w names row sent.0 small)
worth_for w names row (same k) rose got left at kind small none good r =
    let sent = file_sent w r.fields names row rose r.reply at.there kind none r.right in
    by sent.0 sent.2 (has_text (stood_in w row).tag good.tag) (same_sent r.fields (stood_in w row) k good.tag good.is good.text r.carries)
  where
    by : (date : Option (List ℕ)) → r.reply ≡ reply_of w names row date (sent_of Get r.fields (stood_in w row)) → (b : Bool) → sent_of Get r.fields (stood_in w row) ≡ cond b (Alone 304) All
        → IsWorth left (use_of names (same k) got.status got.headers)
    by date is true e = sent_worth w names (same k) row got left r.reply date (Alone 304) r.status r.headers r.body (is ∙ ap (λ x. reply_of w names row date x) e) tt
    by date is false e = sent_worth w names (same k) row got left r.reply date All r.status r.headers r.body (is ∙ ap (λ x. reply_of w names row date x) e) (all_worth w names row date small)
worth_for w names row (rest k) rose got left at kind small none good r =
    let sent = file_sent w r.fields names row rose r.reply at.there kind none r.right in
    by sent.0 sent.2 (has_text (stood_in w row).tag good.0.tag) refl
    (rest_sent r.fields (stood_in w row) k good.0.tag good.0.is good.0.text r.carries
    (λ has. (let there = front_there w names row k good.0 at has in let len = there.1.len in omega (arith, good.1, len))) (omega (arith, good.1, good.0.good.small)))
  where
    by : (date : Option (List ℕ)) → r.reply ≡ reply_of w names row date (sent_of Get r.fields (stood_in w row)) → (b : Bool) → has_text (stood_in w row).tag good.0.tag ≡ b
        → sent_of Get r.fields (stood_in w row) ≡ cond b (One (part_behind w row k)) All → IsWorth left (use_of names (rest k) got.status got.headers)
    by date is true has e =
        sent_worth w names (rest k) row got left r.reply date (One (part_behind w row k)) r.status r.headers r.body (is ∙ ap (λ x. reply_of w names row date x) e)
        (rest_worth w names row date k good.0.tag small good.0.is has (front_there w names row k good.0 at has).1.len good.1)
    by date is false has e = sent_worth w names (rest k) row got left r.reply date All r.status r.headers r.body (is ∙ ap (λ x. reply_of w names row date x) e) (all_worth w names row date small)

pub worth : (w : World) (names : Names) (row : Row) (old : Option Kept) (rose : Type 0) (got : Got) (left : List ℕ) → IsFileAt w names row → row.kind ≡ File → length (bytes_of w row.number) < 10 ^ 19
    → (rose → ⊥) → IfSome old (IsGood w names) → RepliesOf w (file_path names) (asked_for (awaits old)) rose got left → IsWorth left (use_of names (awaits old) got.status got.headers)
worth w names row old rose got left at kind small none good r = worth_for w names row (awaits old) rose got left at kind small none (good_for w names old good) r
