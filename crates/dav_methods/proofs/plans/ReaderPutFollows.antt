-- PUT from a reader that tells its bytes is as its plan says, over a store that follows its rules: the pieces, written each
-- behind the one before, fill the file with the whole body.
-- Headline: `read_follows`.
use Rattle.std.proofs.Common.{zero, suc, ◌≡◌, ◌≤◌, ◌+◌, ◌-◌, ◌++◌, ◌⊎◌, inl, inr, Bool, true, false, ℕ, take, drop, length, min, replicate, List, [], ◌∷◌, Option, None, Some, Result, Ok, Err, refl, sym, ap, subst, ◌∙◌, arith, append-nil, append_assoc, length-append, nat_le}
use Rattle.std.specs.Option.{option_map}
use Rattle.std.proofs.Math.Seq.{drop-nil}
use Rattle.std.proofs.lemmas.Bool.Decides.{nat_tests}
use Rattle.std.proofs.lemmas.List.{take_all}
use Rattle.dav_io.specs.Counts.{Rose}
use Rattle.dav_io.specs.declared.failure.Failed.{Failed}
use Rattle.dav_io.specs.Told.{Both}
use Rattle.dav_io.proofs.AppendingLemmas.{rose_before}
use Rattle.dav_io.proofs.ToldLemmas.{both_known, both_map, both_same, both_then}
use Rattle.dav_core.specs.declared.dav_error.DavError.TheVariants.{Body}
use Rattle.dav_core.specs.declared.error.FsError.{FsError}
use Rattle.dav_core.specs.declared.method.DavMethod.TheVariants.{Put}
use Rattle.dav_core.specs.Disk.{Live, at_start}
use Rattle.dav_core.specs.Edits.{Edited, fills}
use Rattle.dav_core.specs.Statuses.{of_fs}
use Rattle.dav_core.specs.World.{Holds, OpenFile, SameBesidesOpens, World, bytes_of}
use Rattle.dav_core.specs.Writing.{appends, can_write, written}
use Rattle.dav_core.proofs.UnchangedLemmas.{same_besides}
use Rattle.dav_core.proofs.EditsLemmas.{edit_then}
use Rattle.dav_store.specs.Bodies.{BodyState, GivesPiece}
use Rattle.dav_store.specs.Frames.{OpensOne}
use Rattle.dav_store.specs.Files.{Spoiled}
use Rattle.dav_store.specs.View.{Closes, Listings, View}
use Rattle.dav_model.specs.declared.outcome.Outcome.{Outcome}
use Rattle.dav_model.specs.Plans.{Ask, put_options}
use Rattle.dav_model.specs.Rules.{Knowledge, Rules}
use Rattle.dav_model.specs.Valid.{IsRegular}
use Rattle.dav_model.specs.Written.{ByActs, PartOf}
use Rattle.dav_walks.specs.Follows.{Follows, Reached, Told, WritesBy, here, opens as opened_from, writes_file as written_from}
use Rattle.dav_walks.specs.Lines.{Line}
use Rattle.dav_methods.specs.Lines.{Given, unless as answer_unless}
use Rattle.dav_walks.specs.Pouring.{FileStays, Poured, Stops, Writes, WritesFile, begun, goes, most_bytes}
use Rattle.dav_methods.specs.Putting.{AfterChecks, AfterOpening, MayPut, MayReplace, Puts}
use Rattle.dav_methods.specs.Readers.{ReadIn, TellsBody}
use Rattle.dav_methods.specs.Table.{Below, Next}
use Rattle.dav_walks.proofs.trees.EditsJoined.{filled_bytes}
use Rattle.dav_methods.proofs.plans.FilledTwice.{filled_twice}
use Rattle.dav_methods.proofs.plans.OpenedFile.{live_can, never_appends}
use Rattle.dav_walks.proofs.steps.PiecesWritten.{stays_poured}
use Rattle.dav_methods.proofs.plans.PutFollows.{Checked, Known, Opened, checked, opened_stage, opened_world, passed, still_spoiled, unslashed}
use Rattle.dav_methods.proofs.plans.EndsByPlan.{At, Case, Clear, EndsFor, Right, ends_done, ends_spoiled, linked, plan_of, planned, right_in}

-- ---- bytes

empty_more : (xs ys : List ℕ) → xs ++ ys ≡ [] → xs ++ ys ≡ xs
empty_more [] [] e = refl
empty_more [] (y ∷ ys) e = cc
empty_more (x ∷ xs) ys e = cc

no_zeros : (n : ℕ) (xs : List ℕ) → replicate (n - n) 0 ++ xs ≡ xs
no_zeros n xs = let none : n - n ≡ 0 = omega arith in ap (λ k. replicate k 0 ++ xs) none

past_end : (n : ℕ) (xs : List ℕ) → length xs ≤ n → drop n xs ≡ []
past_end n [] le = drop-nil n
past_end zero (x ∷ xs) le = absurd (omega arith)
past_end (suc n) (x ∷ xs) le = past_end n xs (omega arith)

-- what is written behind all bytes
written_behind : (bytes more : List ℕ) → written (length bytes) more bytes ≡ bytes ++ more
written_behind bytes more =
    ap (λ xs. xs ++ (replicate (length bytes - length bytes) 0 ++ (more ++ drop (length bytes + length more) bytes))) (take_all (length bytes) bytes (omega arith))
    ∙ ap (λ xs. bytes ++ xs) (no_zeros (length bytes) (more ++ drop (length bytes + length more) bytes)
    ∙ ap (λ xs. more ++ xs) (past_end (length bytes + length more) bytes (omega arith)) ∙ append-nil more)

take_more : (bytes rest : List ℕ) (n : ℕ) → take (length bytes + n) (bytes ++ rest) ≡ bytes ++ take n rest
take_more [] rest n = let none : length {A = ℕ} [] + n ≡ n = omega arith in ap (λ k. take k rest) none
take_more (x ∷ xs) rest n =
    let one : length (x ∷ xs) + n ≡ suc (length xs + n) = omega arith in
    ap (λ k. take k (x ∷ (xs ++ rest))) one ∙ ap (λ ys. x ∷ ys) (take_more xs rest n)

take_front : (piece rest : List ℕ) (n : ℕ) → n ≤ length piece → take n (piece ++ rest) ≡ take n piece
take_front [] rest zero le = refl
take_front [] rest (suc n) le = absurd (omega arith)
take_front (x ∷ xs) rest zero le = refl
take_front (x ∷ xs) rest (suc n) le = ap (λ ys. x ∷ ys) (take_front xs rest n (omega arith))

take_within : (piece : List ℕ) (n : ℕ) → take n piece ≡ take (min n (length piece)) piece
take_within piece n = within (nat_le n (length piece)) refl
  where
    within : (b : Bool) → nat_le n (length piece) ≡ b → take n piece ≡ take (min n (length piece)) piece
    within true e = let same : min n (length piece) ≡ n = grind (arith, nat_tests) in ap (λ k. take k piece) (sym same)
    within false e =
        let long : length piece ≤ n = grind (arith, nat_tests) in
        let all : min n (length piece) ≡ length piece = omega arith in
        take_all n piece long ∙ sym (take_all (length piece) piece (omega arith)) ∙ ap (λ k. take k piece) (sym all)

-- a front of a body that ends within a piece
front_of : (body bytes piece rest : List ℕ) (n : ℕ) → body ≡ bytes ++ (piece ++ rest) → (m : ℕ) × (bytes ++ take n piece ≡ take m body)
front_of body bytes piece rest n e = (
  length bytes + min n (length piece),
  ap (λ xs. bytes ++ xs) (take_within piece n ∙ sym (take_front piece rest (min n (length piece)) (omega arith)))
      ∙ sym (take_more bytes (piece ++ rest) (min n (length piece))) ∙ ap (take (length bytes + min n (length piece))) (sym e),
)

-- a body that was read up to here
all_of : (body bytes rest : List ℕ) → body ≡ bytes ++ rest → (m : ℕ) × (bytes ≡ take m body)
all_of body bytes rest e = (
  length bytes + 0,
  sym (append-nil bytes) ∙ sym (take_more bytes rest 0) ∙ ap (take (length bytes + 0)) (sym e),
)

-- ---- a file that is filled piece by piece

-- a file that was empty in a world has these bytes in a later one, and its place is behind them
record Grown (h number : ℕ) (bytes : List ℕ) (a u : World) : Type 0 where
  did : Edited (fills number bytes) a u
  place : u.opens h ≡ Some (record { number = number; place = length bytes })

grown_holds : (h number : ℕ) (bytes : List ℕ) (a u : World) → Grown h number bytes a u → Holds u number
grown_holds h number bytes a u g = inr (h, ap (option_map (λ (o : OpenFile). o.number)) g.place)

grown_bytes : (h number : ℕ) (bytes : List ℕ) (a u : World) → Grown h number bytes a u → bytes_of u number ≡ bytes
grown_bytes h number bytes a u g = filled_bytes number bytes a u g.did (grown_holds h number bytes a u g)

-- bytes that are written behind them
grown_more : (h number : ℕ) (bytes more : List ℕ) (a u w : World) → bytes_of a number ≡ [] → Grown h number bytes a u
    → Edited (fills number (written (length bytes) more (bytes_of u number))) u w → Edited (fills number (bytes ++ more)) a w
grown_more h number bytes more a u w empty g edited =
    let all : written (length bytes) more (bytes_of u number) ≡ bytes ++ more = ap (written (length bytes) more) (grown_bytes h number bytes a u g) ∙ written_behind bytes more in
    filled_twice number bytes (bytes ++ more) a u w (grown_holds h number bytes a u g) (λ e. empty_more bytes more (e ∙ empty)) g.did
    (subst (λ x. Edited (fills number x) u w) all edited)

-- what is left of a told body, once these bytes were read
abbrev LeftOf : List ℕ → List ℕ → BodyState → Type 0
LeftOf body bytes k = (rest : List ℕ) × (k.left ≡ Some rest) × (body ≡ bytes ++ rest)

left_told : (old new : Option (List ℕ)) (rest : List ℕ) (P : List ℕ → List ℕ → Type 0) → old ≡ Some rest → Both old new P → (more : List ℕ) × (new ≡ Some more) × P rest more
left_told None new rest P e both = cc
left_told (Some old) None rest P e both = absurd both
left_told (Some old) (Some more) rest P e both = let same : old ≡ rest = cc in (more, refl, subst (λ x. P x more) same both)

-- after a piece
left_piece : (body bytes piece : List ℕ) (k j : BodyState) → LeftOf body bytes k → GivesPiece k (Ok (Some piece)) j → (more : List ℕ) × (j.left ≡ Some more) × (body ≡ bytes ++ (piece ++ more))
left_piece body bytes piece k j (rest, at, whole) gives =
    let (more, left, is) = left_told k.left j.left rest _ at gives.told in
    (more, left, whole ∙ ap (λ xs. bytes ++ xs) is)

left_more : (body bytes piece : List ℕ) (k j : BodyState) → LeftOf body bytes k → GivesPiece k (Ok (Some piece)) j → LeftOf body (bytes ++ piece) j
left_more body bytes piece k j left gives =
    let (more, at, whole) = left_piece body bytes piece k j left gives in
    (more, at, whole ∙ sym (append_assoc bytes piece more))

-- at the end
left_none : (body bytes : List ℕ) (k j : BodyState) → LeftOf body bytes k → GivesPiece k (Ok None) j → body ≡ bytes
left_none body bytes k j (rest, at, whole) gives =
    let (more, left, is) = left_told k.left j.left rest _ at gives.told in
    whole ∙ ap (λ xs. bytes ++ xs) is.0 ∙ append-nil bytes

module _ {S C F L E : Type 0} (view : View S C F) (lists : Listings S C L E) (writes : Writes F) (c : C) where
  poured_left : (n : S) (f : F) (b : BodyState) (body bytes : List ℕ) (m : S) (g : F) (k : BodyState) → b.left ≡ Some body → Poured view writes n f b bytes m g k → LeftOf body bytes k
  poured_left n f b body _ _ _ _ told begun = (body, told, refl)
  poured_left n f b body _ _ _ _ told (goes front piece m t g h k j before gives w) = left_more body front piece k j (poured_left n f b body front m g k told before) gives

  poured_counts : (n : S) (f : F) (b : BodyState) (bytes : List ℕ) (m : S) (g : F) (k : BodyState) → Poured view writes n f b bytes m g k → b.faults ≤ k.faults
  poured_counts n f b _ _ _ _ begun = omega arith
  poured_counts n f b _ _ _ _ (goes front piece m t g h k j before gives w) =
      let first = poured_counts n f b front m g k before in
      let second = gives.counts in
      omega arith

  -- what pieces make of a file that was opened empty
  abbrev Grows : F → List ℕ → World → World → Type 0
  Grows f bytes a u = (number : ℕ) → a.opens (view.file.handle f) ≡ Some (at_start number) → bytes_of a number ≡ [] → Grown (view.file.handle f) number bytes a u

  grows_on : (f : F) (bytes piece : List ℕ) (a u w : World) → Grows f bytes a u
      → ((o : OpenFile) → u.opens (view.file.handle f) ≡ Some o → o.place ≤ length (bytes_of u o.number) → WritesBy view lists writes c (view.file.handle f) piece (Ok tt) o u w)
      → Grows f (bytes ++ piece) a w
  grows_on f bytes piece a u w grows next number at empty =
      let g = grows number at empty in
      let long : length (bytes_of u number) ≡ length bytes = ap length (grown_bytes (view.file.handle f) number bytes a u g) in
      let did = next (record { number = number; place = length bytes }) g.place (omega arith) in
      record {
        did = grown_more (view.file.handle f) number bytes piece a u w empty g did.0;
        place = did.1 ∙ ap (λ n. Some (record { number = number; place = n })) (sym (length-append bytes piece));
      }

  -- how a file that pieces went into stands
  record PouredOn (x : Case view lists writes c planned linked) (n : S) (f : F) (bytes : List ℕ) (m : S) (g : F) : Type 0 where
    reached : Reached view lists writes c x.s m
    stays : FileStays view n f m g
    grows : Told view lists writes c n m (Grows f bytes)

  still_plain : (n m : S) (f g : F) → FileStays view n f m g → appends ((view.state n).live (view.file.handle f)) ≡ false → appends ((view.state m).live (view.file.handle g)) ≡ false
  still_plain n m f g stays plain =
      subst (λ h. appends ((view.state m).live h) ≡ false) (sym stays.handle) (subst (λ (l : Option Live). appends l ≡ false) (sym stays.live) plain)

  -- the next writing, by the handle that the file was opened under
  writes_next : (x : Case view lists writes c planned linked) (n : S) (f : F) (m t : S) (g h : F) (piece : List ℕ) (r : Result Unit FsError) → Reached view lists writes c x.s m → FileStays view n f m g
      → appends ((view.state n).live (view.file.handle f)) ≡ false → WritesFile view writes m g piece r t h
      → Told view lists writes c m t (λ u w. (o : OpenFile) → u.opens (view.file.handle f) ≡ Some o → o.place ≤ length (bytes_of u o.number) → WritesBy view lists writes c (view.file.handle f) piece r o u w)
  writes_next x n f m t g h piece r reached stays plain w =
      subst (λ k. Told view lists writes c m t (λ u w. (o : OpenFile) → u.opens k ≡ Some o → o.place ≤ length (bytes_of u o.number) → WritesBy view lists writes c k piece r o u w)) stays.handle
      (x.follows.writes_file m t g h piece r reached w (still_plain n m f g stays plain))

  poured_on : (x : Case view lists writes c planned linked) (n : S) (f : F) (b : BodyState) (bytes : List ℕ) (m : S) (g : F) (k : BodyState) → Reached view lists writes c x.s n
      → appends ((view.state n).live (view.file.handle f)) ≡ false → Poured view writes n f b bytes m g k → PouredOn x n f bytes m g
  poured_on x n f b _ _ _ _ reached plain begun = record {
    reached = reached;
    stays = stays_poured view writes n f b n f b [] begun;
    grows = both_same (view.state n).told (view.state n).told (Grows f []) (λ a number at empty. record { did = inl (sym empty, same_besides a); place = at }) refl;
  }
  poured_on x n f b _ _ _ _ reached plain (goes front piece m t g h k j before gives w) =
      let far = poured_on x n f b front m g k reached plain before in
      record {
        reached = written_from m t g h piece (Ok tt) far.reached w;
        stays = stays_poured view writes n f b t h j (front ++ piece) (goes front piece m t g h k j before gives w);
        grows = both_then (view.state n).told (view.state m).told (view.state t).told _ _ (Grows f (front ++ piece)) (λ a u v p q. grows_on f front piece a u v p q) far.grows
            (writes_next x n f m t g h piece (Ok tt) far.reached far.stays plain w);
      }

  -- ---- how the body ends

  -- The reader met a fault: a part of the plan was made.
  record Broken (x : Case view lists writes c planned linked) (b n : BodyState) (r : Given) (t : S) : Type 0 where
    answer : r ≡ Err Body
    rose : Rose b.faults n.faults
    part : Both (view.state x.s).told (view.state t).told (λ v w. Clear view lists writes c planned linked x v → PartOf (plan_of view lists writes c planned linked x v).acts v w)

  abbrev Read : Case view lists writes c planned linked → BodyState → BodyState → Given → S → Type 0
  Read x b n r t = Right view lists writes c planned linked x r t ⊎ Broken x b n r t

  -- a file that was opened, in the world after some of the body
  record Part (x : Case view lists writes c planned linked) (outcome : Outcome) (n : S) (f : F) (bytes : List ℕ) (v w : World) : Type 0 where
    a : World
    opened : Opened view lists writes c x outcome n f v a
    grown : Grown (view.file.handle f) opened.row.number bytes a w

  part_of : (x : Case view lists writes c planned linked) (outcome : Outcome) (n : S) (f : F) (bytes : List ℕ) (v a u : World) → Opened view lists writes c x outcome n f v a → Grows f bytes a u → Part x outcome n f bytes v u
  part_of x outcome n f bytes v a u opened grows = record { a = a; opened = opened; grown = grows opened.row.number opened.place opened.into.empty }

  -- all of the body is in the file
  whole_right : (x : Case view lists writes c planned linked) (outcome : Outcome) (n t : S) (f : F) (bytes : List ℕ) (v u w : World) → x.ask.body ≡ bytes → Part x outcome n f bytes v u → SameBesidesOpens u w
      → EndsFor view lists writes c planned linked x (Ok outcome) t v w
  whole_right x outcome n t f bytes v u w all p same =
      let acts = passed view lists writes c x v outcome p.opened.into.edit p.opened.known p.opened.open_at p.opened.into.allows in
      let did : Edited (fills p.opened.row.number x.ask.body) p.a u = subst (λ z. Edited (fills p.opened.row.number z) p.a u) (sym all) p.grown.did in
      ends_done view lists writes c planned linked x outcome t v w p.opened.known.done
      (λ reply is. subst (λ acts. ByActs x.ask.fields acts (plan_of view lists writes c planned linked x v).done reply v w) (sym acts)
      (p.opened.into.whole w (edit_then (fills p.opened.row.number x.ask.body) p.a u w did same) (plan_of view lists writes c planned linked x v).done reply is))

  -- a front of the body is in the file
  front_made : (x : Case view lists writes c planned linked) (outcome : Outcome) (n : S) (f : F) (v a b w : World) (opened : Opened view lists writes c x outcome n f v a) (bytes : List ℕ) → (m : ℕ) × (bytes ≡ take m x.ask.body)
      → Edited (fills opened.row.number bytes) a b → SameBesidesOpens b w → PartOf (plan_of view lists writes c planned linked x v).acts v w
  front_made x outcome n f v a b w opened bytes (m, front) did same =
      let acts = passed view lists writes c x v outcome opened.into.edit opened.known opened.open_at opened.into.allows in
      subst (λ acts. PartOf acts v w) (sym acts)
      (opened.into.part m w (edit_then (fills opened.row.number (take m x.ask.body)) a b w (subst (λ z. Edited (fills opened.row.number z) a b) front did) same))

  broken_part : (x : Case view lists writes c planned linked) (outcome : Outcome) (n : S) (f : F) (bytes rest : List ℕ) (v u w : World) → x.ask.body ≡ bytes ++ rest → Part x outcome n f bytes v u → SameBesidesOpens u w
      → PartOf (plan_of view lists writes c planned linked x v).acts v w
  broken_part x outcome n f bytes rest v u w is p same = front_made x outcome n f v p.a u w p.opened bytes (all_of x.ask.body bytes rest is) p.grown.did same

  -- a piece of which a front was written
  record Refused (x : Case view lists writes c planned linked) (outcome : Outcome) (n : S) (f : F) (bytes piece : List ℕ) (v w : World) : Type 0 where
    a : World
    opened : Opened view lists writes c x outcome n f v a
    count : ℕ
    did : Edited (fills opened.row.number (bytes ++ take count piece)) a w

  refused_of : (x : Case view lists writes c planned linked) (outcome : Outcome) (n : S) (f : F) (bytes piece : List ℕ) (e : FsError) (v u w : World) → Part x outcome n f bytes v u
      → ((o : OpenFile) → u.opens (view.file.handle f) ≡ Some o → o.place ≤ length (bytes_of u o.number) → WritesBy view lists writes c (view.file.handle f) piece (Err e) o u w)
      → Refused x outcome n f bytes piece v w
  refused_of x outcome n f bytes piece e v u w p next =
      let number = p.opened.row.number in
      let own = view.file.handle f in
      let long : length (bytes_of u number) ≡ length bytes = ap length (grown_bytes own number bytes p.a u p.grown) in
      let (count, edited) = next (record { number = number; place = length bytes }) p.grown.place (omega arith) in
      record { a = p.a; opened = p.opened; count = count; did = grown_more own number bytes (take count piece) p.a u w p.opened.into.empty p.grown edited }

  refused_right : (x : Case view lists writes c planned linked) (outcome : Outcome) (n t : S) (f : F) (bytes piece rest : List ℕ) (e : FsError) (v b w : World) → x.ask.body ≡ bytes ++ (piece ++ rest)
      → (can_write ((view.state n).live (view.file.handle f)) ≡ true → Spoiled {T = Unit} (view.state x.s) (Err e) (view.state t))
      → ((l : Live) → (view.state n).live (view.file.handle f) ≡ Some l → l.how ≡ put_options) → Refused x outcome n f bytes piece v b → SameBesidesOpens b w
      → EndsFor view lists writes c planned linked x (Err (of_fs e)) t v w
  refused_right x outcome n t f bytes piece rest e v b w is spoiled how p same =
      let can = live_can ((view.state n).live (view.file.handle f)) p.opened.row.kind p.opened.kind p.opened.into.kind how in
      ends_spoiled view lists writes c planned linked {T = Unit} x e t v w (spoiled can)
      (front_made x outcome n f v p.a b w p.opened (bytes ++ take p.count piece) (front_of x.ask.body bytes piece rest p.count is) p.did same)

  -- a file that may be written may be after pieces
  still_can : (n m : S) (f g : F) → FileStays view n f m g → can_write ((view.state n).live (view.file.handle f)) ≡ true → can_write ((view.state m).live (view.file.handle g)) ≡ true
  still_can n m f g stays can =
      subst (λ h. can_write ((view.state m).live h) ≡ true) (sym stays.handle) (subst (λ (l : Option Live). can_write l ≡ true) (sym stays.live) can)

  too_long : (ask : Ask) (b : BodyState) (bytes piece rest : List ℕ) → TellsBody ask b → ask.body ≡ bytes ++ (piece ++ rest) → most_bytes ≤ length bytes + length piece → ⊥
  too_long ask b bytes piece rest reads is long =
      let first = length-append bytes (piece ++ rest) in
      let second = length-append piece rest in
      let whole : length ask.body ≡ length (bytes ++ (piece ++ rest)) = ap length is in
      let short = reads.short in
      omega arith

  -- what is known where the body ends: what the pieces made, and what they left
  record Pouring (x : Case view lists writes c planned linked) (outcome : Outcome) (n : S) (f : F) (b k : BodyState) (bytes : List ℕ) (m : S) (g : F) : Type 0 where
    far : PouredOn x n f bytes m g
    plain : appends ((view.state n).live (view.file.handle f)) ≡ false
    how : (l : Live) → (view.state n).live (view.file.handle f) ≡ Some l → l.how ≡ put_options
    reads : TellsBody x.ask b
    left : LeftOf x.ask.body bytes k
    counts : b.faults ≤ k.faults
    part : Both (view.state x.s).told (view.state m).told (λ v u. Clear view lists writes c planned linked x v → Part x outcome n f bytes v u)

  at_end : (x : Case view lists writes c planned linked) (outcome : Outcome) (n : S) (f : F) (b k j : BodyState) (bytes : List ℕ) (m t : S) (g : F) → Pouring x outcome n f b k bytes m g → GivesPiece k (Ok None) j
      → Closes view m g t → Right view lists writes c planned linked x (Ok outcome) t
  at_end x outcome n f b k j bytes m t g p gives closes =
      let all : x.ask.body ≡ bytes = left_none x.ask.body bytes k j p.left gives in
      both_then (view.state x.s).told (view.state m).told (view.state t).told _ _ _ (λ v u w q same clear. whole_right x outcome n t f bytes v u w all (q clear) same) p.part closes.done.keeps.world

  at_fault : (x : Case view lists writes c planned linked) (outcome : Outcome) (n : S) (f : F) (b k j : BodyState) (bytes : List ℕ) (m t : S) (g : F) (failed : Failed) → Pouring x outcome n f b k bytes m g
      → GivesPiece k (Err failed) j → Closes view m g t → Broken x b j (Err Body) t
  at_fault x outcome n f b k j bytes m t g failed p gives closes =
      let (rest, at, is) = p.left in
      record {
        answer = refl;
        rose = rose_before b.faults k.faults j.faults p.counts (gives.failed refl);
        part = both_then (view.state x.s).told (view.state m).told (view.state t).told _ _ _ (λ v u w q same clear. broken_part x outcome n f bytes rest v u w is (q clear) same) p.part closes.done.keeps.world;
      }

  at_refusal : (x : Case view lists writes c planned linked) (outcome : Outcome) (n : S) (f : F) (b k j : BodyState) (bytes piece : List ℕ) (m full t : S) (g h : F) (e : FsError) → Pouring x outcome n f b k bytes m g
      → GivesPiece k (Ok (Some piece)) j → WritesFile view writes m g piece (Err e) full h → Closes view full h t → Right view lists writes c planned linked x (Err (of_fs e)) t
  at_refusal x outcome n f b k j bytes piece m full t g h e p gives w closes =
      let (rest, at, is) = left_piece x.ask.body bytes piece k j p.left gives in
      let spoiled : can_write ((view.state n).live (view.file.handle f)) ≡ true → Spoiled {T = Unit} (view.state x.s) (Err e) (view.state t) =
      λ can. still_spoiled view lists writes c (Err e) x.s m full t (x.follows.counts m p.far.reached) closes.done.counts (w.told.refused (still_can n m f g p.far.stays can)) in
      let made = both_then (view.state x.s).told (view.state m).told (view.state full).told _ _ (λ v z. Clear view lists writes c planned linked x v → Refused x outcome n f bytes piece v z)
      (λ v u z q next clear. refused_of x outcome n f bytes piece e v u z (q clear) next) p.part (writes_next x n f m full g h piece (Err e) p.far.reached p.far.stays p.plain w) in
      both_then (view.state x.s).told (view.state full).told (view.state t).told _ _ _
      (λ v z y q same clear. refused_right x outcome n t f bytes piece rest e v z y is spoiled p.how (q clear) same) made closes.done.keeps.world

  stop_stage : (x : Case view lists writes c planned linked) (outcome : Outcome) (n : S) (f : F) (b k j : BodyState) (bytes : List ℕ) (m full t : S) (g h : F) (ended : Line) (r : Given) → Pouring x outcome n f b k bytes m g
      → Stops view writes (length bytes) m g k ended full h j → Closes view full h t → r ≡ answer_unless ended outcome → Read x b j r t
  stop_stage x outcome n f b k j bytes m full t g h (Ok y) r p (gives, same, file) closes is =
      inl (subst (λ z. Right view lists writes c planned linked x z t) (sym is) (at_end x outcome n f b k j bytes m t g p gives (subst (λ z. Closes view m z t) file (subst (λ z. Closes view z h t) same closes))))
  stop_stage x outcome n f b k j bytes m full t g h (Err e) r p (inl (failed, gives, body, same, file)) closes is =
      inr (subst (λ z. Broken x b j z t) (sym (is ∙ ap (λ d. Err d) body)) (at_fault x outcome n f b k j bytes m t g failed p gives (subst (λ z. Closes view m z t) file (subst (λ z. Closes view z h t) same closes))))
  stop_stage x outcome n f b k j bytes m full t g h (Err e) r p (inr (piece, gives, inl (status, long, same, file))) closes is =
      let (rest, at, whole) = left_piece x.ask.body bytes piece k j p.left gives in
      absurd (too_long x.ask b bytes piece rest p.reads whole long)
  stop_stage x outcome n f b k j bytes m full t g h (Err e) r p (inr (piece, gives, inr (refusal, error, w))) closes is =
      inl (subst (λ z. Right view lists writes c planned linked x z t) (sym (is ∙ ap (λ d. Err d) error)) (at_refusal x outcome n f b k j bytes piece m full t g h refusal p gives w closes))

  -- ---- the method

  pours_stage : (x : Case view lists writes c planned linked) (outcome : Outcome) (opened : Result F FsError) (m n : S) (b j : BodyState) (r : Given) (t : S) → x.ask.path.slash ≡ false → Reached view lists writes c x.s m
      → At view lists writes c planned linked x m (Known view lists writes c x outcome) → view.opens m c x.ask.path put_options opened n → OpensOne view.file put_options (view.state m) opened (view.state n)
      → AfterOpening view writes c opened outcome b n r t j → TellsBody x.ask b → Read x b j r t
  pours_stage x outcome (Err e) m n b j r t slash reached at call one (ends, same) reads = inl (opened_stage view lists writes c x outcome (Err e) m n r t slash reached at call one ends)
  pours_stage x outcome (Ok f) m n b j r t slash reached at call one into reads =
      let p = into.pours in
      let next = opened_from m n x.ask.path put_options (Ok f) reached call in
      let plain = never_appends ((view.state n).live (view.file.handle f)) one.options in
      let far = poured_on x n f b p.bytes p.place p.file p.reader next plain p.poured in
      let first = opened_world view lists writes c x outcome m n f slash reached at call in
      stop_stage x outcome n f b p.reader j p.bytes p.place into.full t p.file into.file into.ended r (record {
        far = far;
        plain = plain;
        how = one.options;
        reads = reads;
        left = poured_left n f b x.ask.body p.bytes p.place p.file p.reader reads.told p.poured;
        counts = poured_counts n f b p.bytes p.place p.file p.reader p.poured;
        part = both_then (view.state x.s).told (view.state n).told (view.state p.place).told _ _ _ (λ v a u q grows clear. part_of x outcome n f p.bytes v a u (q clear) grows) first far.grows;
      }) p.stops into.closes into.answer

  after_checks : (x : Case view lists writes c planned linked) (may : Given) (m : S) (b j : BodyState) (r : Given) (t : S) → Checked view lists writes c x may m → ((outcome : Outcome) → may ≡ Ok outcome → x.ask.path.slash ≡ false)
      → AfterChecks view writes c may x.ask.path b m r t j → TellsBody x.ask b → Read x b j r t
  after_checks x (Err d) m b j r t right slash ((e, f), same) reads = inl (rw (e, f) right)
  after_checks x (Ok outcome) m b j r t (reached, at) slash (opened, n, call, one, on) reads = pours_stage x outcome opened m n b j r t (slash outcome refl) reached at call one on reads

  put_read : (x : Case view lists writes c planned linked) → x.ask.method ≡ Put → (b j : BodyState) (r : Given) (t : S) → Puts view writes c x.ask.path x.ask.fields b x.s r t j → TellsBody x.ask b → Read x b j r t
  put_read x is b j r t (may, m, checks, on) reads =
      after_checks x may m b j r t (checked view lists writes c x is may m checks)
      (λ outcome e. unslashed x.ask.path.slash (Next (Below view c x.ask.path (MayReplace view c x.ask.path x.ask.fields))) outcome x.s m
      (subst (λ g. MayPut view c x.ask.path x.ask.fields x.s g m) e checks)) on reads

  read_in : (rules : Rules) (k : Knowledge) (s : S) → (follows : Follows view lists writes c rules k s) → (ask : Ask) (b j : BodyState) (r : Given) (t : S)
      → Read (record { rules = rules; knows = k; ask = ask; s = s; follows = follows }) b j r t
      → Told view lists writes c s t (λ v w. IsRegular rules k v → ReadIn view lists writes c rules ask b j s r t v w)
  read_in rules k s follows ask b j r t (inl right) =
      both_map (view.state s).told (view.state t).told _ _ (λ v w is regular. inl (is regular)) (right_in view lists writes c rules k s follows ask r t right)
  read_in rules k s follows ask b j r t (inr broken) =
      both_known (view.state s).told (view.state t).told _ _
      (λ v w told part regular. inr (broken.answer, broken.rose, λ links. part (record { world = follows.trees s v here told; regular = regular; links = links }))) broken.part

  pub read_follows : (rules : Rules) (k : Knowledge) (s : S) → Follows view lists writes c rules k s → (ask : Ask) → ask.method ≡ Put → (b j : BodyState) → TellsBody ask b → (r : Given) (t : S)
      → Puts view writes c ask.path ask.fields b s r t j → Told view lists writes c s t (λ v w. IsRegular rules k v → ReadIn view lists writes c rules ask b j s r t v w)
  read_follows rules k s follows ask is b j reads r t run =
      read_in rules k s follows ask b j r t (put_read (record { rules = rules; knows = k; ask = ask; s = s; follows = follows }) is b j r t run reads)
