-- Fields in order stay in order where a field of another name is put among them.
use Rattle.std.proofs.Common.{◌≡◌, ◌+◌, ℕ, zero, suc, List, [], ◌∷◌, ◌++◌, map, take, drop, All, Bool, true, false, ◌&&◌, not, if◌then◌else◌, codes, bytes_eq, Contains, refl, sym, ap, subst, ◌∙◌, arith, add-one, true≢false}
use Rattle.std.specs.Ordering.{nat_cmp, is_gt, is_eq, ordering_reverse}
use Rattle.std.specs.declared.cmp.Ordering.{Ordering}
use Rattle.std.specs.declared.cmp.Ordering.TheVariants.{Less, Equal, Greater}
use Rattle.std.specs.Cmp.{IsTotalOrder}
use Rattle.std.specs.Cmp.Lexicographic.{slice_cmp}
use Rattle.std.specs.List.{AllByRecursion}
use Rattle.std.specs.List.Sorted.{IsStrictlySortedBy}
use Rattle.std.proofs.lemmas.Bool.{or_parts}
use Rattle.std.proofs.lemmas.Cmp.{nat_list_cmp_total}
use Rattle.std.proofs.lemmas.Map.Text.{is_eq-slice_cmp}
use Rattle.std.proofs.lemmas.Slice.Eq.{bytes_eq-Decides}
use Rattle.std.proofs.lemmas.List.Elements.{All-head, All-tail}
use Rattle.dav_io.specs.declared.fields.Field.{Field}
use Rattle.dav_model.specs.WellFormed.{Ascend, IsReplyField, reply_names}
use Rattle.dav_wire.specs.Answers.{chunked_field, close_field, has_close_field, is_close_field, place, with_close, with_field, with_framing, written_fields}
use Rattle.dav_wire.specs.declared.chunks.Framing.{Framing}
use Rattle.dav_wire.specs.declared.chunks.Framing.TheVariants.{Raw, Chunked}

abbrev names_of : List Field → List (List ℕ)
names_of fields = map (λ (field : Field). field.name) fields

abbrev cmp : List ℕ → List ℕ → Ordering
cmp a b = slice_cmp nat_cmp a b

-- none of the names is this one
abbrev Lacks : List ℕ → List Field → Type 0
Lacks name fields = AllByRecursion (λ other. other ≡ name → ⊥) (names_of fields)

order : IsTotalOrder (slice_cmp nat_cmp)
order = nat_list_cmp_total

-- one that comes after is one before which the other comes
after : (a b : List ℕ) → is_gt (cmp a b) ≡ true → cmp b a ≡ Less
after a b e = order.antisymm b a ∙ ap ordering_reverse (greater (cmp a b) e)
  where
    greater : (o : Ordering) → is_gt o ≡ true → o ≡ Greater
    greater Less e = absurd (true≢false (sym e))
    greater Equal e = absurd (true≢false (sym e))
    greater Greater e = refl

before : (a b : List ℕ) → is_gt (cmp a b) ≡ false → (a ≡ b → ⊥) → cmp a b ≡ Less
before a b e other = by_order (cmp a b) refl e
  where
    by_order : (o : Ordering) → cmp a b ≡ o → is_gt o ≡ false → cmp a b ≡ Less
    by_order Less is e = is
    by_order Equal is e = absurd (other ((bytes_eq-Decides a b).0 (sym (is_eq-slice_cmp a b) ∙ ap is_eq is)))
    by_order Greater is e = absurd (true≢false e)

-- One that is put behind the first stands among the others.
among_next : (n : ℕ) (added f : Field) (fields : List Field) → take (n + 1) (f ∷ fields) ++ added ∷ drop (n + 1) (f ∷ fields) ≡ f ∷ (take n fields ++ added ∷ drop n fields)
among_next n added f fields = ap (λ k. take k (f ∷ fields) ++ added ∷ drop k (f ∷ fields)) (add-one n)

-- What holds of each of some names and of one more holds where that is put among them.
each_with : (P : List ℕ → Type 0) (added : Field) (fields : List Field) → P added.name → AllByRecursion P (names_of fields) → AllByRecursion P (names_of (with_field added fields))
each_with P added [] p all = (p, tt)
each_with P added (f ∷ fields) p all = by_place (is_gt (cmp f.name added.name)) (each_with P added fields p all.1)
  where
    by_place : (b : Bool) → AllByRecursion P (names_of (with_field added fields))
        → AllByRecursion P (names_of (take (if b then 0 else place added.name fields + 1) (f ∷ fields) ++ added ∷ drop (if b then 0 else place added.name fields + 1) (f ∷ fields)))
    by_place true rest = (p, all)
    by_place false rest = subst (λ (fs : List Field). AllByRecursion P (names_of fs)) (sym (among_next (place added.name fields) added f fields)) (all.0, rest)

all_after : (a b : List ℕ) (names : List (List ℕ)) → cmp a b ≡ Less → AllByRecursion (λ y. cmp b y ≡ Less) names → AllByRecursion (λ y. cmp a y ≡ Less) names
all_after a b [] less all = tt
all_after a b (name ∷ names) less (first, all) = (order.trans a b name less first, all_after a b names less all)

with_ascends : (added : Field) (fields : List Field) → Lacks added.name fields → Ascend fields → Ascend (with_field added fields)
unfolding IsStrictlySortedBy
with_ascends added [] lacks ascend = (tt, tt)
with_ascends added (f ∷ fields) (other, lacks) (below, ascend) = by_place (is_gt (cmp f.name added.name)) refl (with_ascends added fields lacks ascend)
  where
    by_place : (b : Bool) → is_gt (cmp f.name added.name) ≡ b → Ascend (with_field added fields)
        → Ascend (take (if b then 0 else place added.name fields + 1) (f ∷ fields) ++ added ∷ drop (if b then 0 else place added.name fields + 1) (f ∷ fields))
    by_place true e rest =
        let less = after f.name added.name e in
        ((less, all_after added.name f.name (names_of fields) less below), (below, ascend))
    by_place false e rest =
        let first : AllByRecursion (λ y. cmp f.name y ≡ Less) (names_of (with_field added fields)) =
        each_with (λ y. cmp f.name y ≡ Less) added fields (before f.name added.name e other) below in
        subst Ascend (sym (among_next (place added.name fields) added f fields)) (first, rest)

-- ---- what is added to a reply

-- What holds of each name of a list holds of one that it has.
holds_of : (P : List ℕ → Type 0) (names : List (List ℕ)) → AllByRecursion P names → (name : List ℕ) → Contains names name → P name
holds_of P [] all name (k, few, at) = absurd (omega (arith, few))
holds_of P (first ∷ names) (p, all) name (zero, few, at) = subst P at p
holds_of P (first ∷ names) (p, all) name (suc k, few, at) = holds_of P names all name (k, omega (arith, few), at)

abbrev IsOther : List ℕ → Type 0
IsOther name = bytes_eq name (codes "transfer-encoding") ≡ false

is_other : (name : List ℕ) → IsOther name → name ≡ codes "transfer-encoding" → ⊥
is_other name other e = true≢false (sym (ap (λ n. bytes_eq n (codes "transfer-encoding")) e) ∙ other)

-- No field of a reply is `transfer-encoding`.
no_encoding : (fields : List Field) → All IsReplyField fields → Lacks (codes "transfer-encoding") fields
no_encoding [] all = tt
no_encoding (f ∷ fields) all = (
  is_other f.name (holds_of IsOther reply_names (refl, (refl, (refl, (refl, (refl, (refl, (refl, (refl, (refl, (refl, (refl, (refl, (refl, (refl, (refl, tt))))))))))))))) f.name (All-head IsReplyField f fields all).known),
  no_encoding fields (All-tail IsReplyField f fields all),
)

says_close : (f : Field) → f.name ≡ codes "connection" → f.value ≡ codes "close" → is_close_field f ≡ true
says_close f e v = rw (e, v) refl

-- Where no field says that the answer closes, none speaks of the connection.
no_connection : (fields : List Field) → All IsReplyField fields → has_close_field fields ≡ false → Lacks (codes "connection") fields
no_connection [] all none = tt
no_connection (f ∷ fields) all none =
    let (first, rest) = or_parts (is_close_field f) (has_close_field fields) none in (
      λ e. absurd (true≢false (sym (says_close f e ((All-head IsReplyField f fields all).closes e)) ∙ first)),
      no_connection fields (All-tail IsReplyField f fields all) rest,
    )

-- fields in order, none of which is `transfer-encoding`
abbrev InOrder : List Field → Type 0
InOrder fields = Ascend fields × Lacks (codes "transfer-encoding") fields

close_kept : (fields : List Field) → All IsReplyField fields → Ascend fields → (closing said : Bool) → has_close_field fields ≡ said
    → InOrder (if closing && not said then with_field close_field fields else fields)
close_kept fields all ascend false said e = (ascend, no_encoding fields all)
close_kept fields all ascend true true e = (ascend, no_encoding fields all)
close_kept fields all ascend true false e = (
  with_ascends close_field fields (no_connection fields all e) ascend,
  each_with (λ other. other ≡ codes "transfer-encoding" → ⊥) close_field fields (is_other (codes "connection") refl) (no_encoding fields all),
)

framed : (framing : Framing) (fields : List Field) → InOrder fields → Ascend (with_framing framing fields)
framed Raw fields order = order.0
framed Chunked fields order = with_ascends chunked_field fields order.1 order.0

-- The fields of a reply as they are written are in order.
pub written_ascend : (closing : Bool) (framing : Framing) (fields : List Field) → All IsReplyField fields → Ascend fields → Ascend (written_fields closing framing fields)
written_ascend closing framing fields all ascend = framed framing (with_close closing fields) (close_kept fields all ascend closing (has_close_field fields) refl)
