-- What is sent and what is held, as bytes are given to a buffer in front of a sink.
use Rattle.std.proofs.Common.{◌≡◌, ℕ, List, [], ◌++◌, take, drop, Result, Ok, Err, refl, sym, ap, ◌∙◌, subst, arith, append-nil, append_assoc}
use Rattle.std.proofs.lemmas.List.{take-append-drop}
use Rattle.dav_io.specs.Outside.{Stream}
use Rattle.dav_io.proofs.ToldLemmas.{both_same, both_map, both_then}
use Rattle.dav_io.proofs.Rising.{rose_before}
use Rattle.dav_io.specs.declared.failure.Failed.{Failed}
use Rattle.dav_io.specs.Appending.{Appended, Appends}
use Rattle.dav_wire.specs.Writing.{Adds, AddsFront, Pushed, Pushes, Sent, SentAll, SentFront}

sent : (held : List ℕ) (result : Result Unit Failed) (a b : List ℕ) → Appended held result a b → Pushed held [] result [] a b
sent held (Ok x) a b p = (held, p, refl)
sent held (Err e) a b (n, few, p) = (drop n held, (take n held, p, take-append-drop n held ∙ sym (append-nil held)))

-- all that was held was given to the sink
pub flushes : (old new : Stream) (held later : List ℕ) (result : Result Unit Failed) → Appends old held result new → later ≡ []
    → Pushes old held [] result later new
flushes old new held later result p none = subst (λ (x : List ℕ). Pushes old held [] result x new) (sym none) (record {
  counts = p.counts;
  failed = p.failed;
  dropped = λ e. refl;
  told = both_map old.bytes new.bytes (Appended held result) (Pushed held [] result []) (sent held result) p.told;
})

-- bytes are held behind those that are held
pub holds : (old : Stream) (held bytes later : List ℕ) → later ≡ held ++ bytes → Pushes old held bytes (Ok tt) later old
holds old held bytes later e = record {
  counts = omega arith;
  failed = λ f. cc;
  dropped = λ f. cc;
  told = both_same old.bytes old.bytes (Pushed held bytes (Ok tt) later) (λ a. ([], sym (append-nil a), e)) refl;
}

-- bytes behind those of which a front was sent
left_more : (sent left held bytes : List ℕ) → sent ++ left ≡ held ++ [] → sent ++ (left ++ bytes) ≡ held ++ bytes
left_more sent left held bytes e = sym (append_assoc sent left bytes) ∙ ap (λ x. x ++ bytes) (e ∙ append-nil held)

-- the sink failed where what was held was given to it
pub fails : (old new : Stream) (held bytes later : List ℕ) (e : Failed) → Pushes old held [] (Err e) later new
    → Pushes old held bytes (Err e) later new
fails old new held bytes later e p = record {
  counts = p.counts;
  failed = p.failed;
  dropped = p.dropped;
  told = both_map old.bytes new.bytes (Pushed held [] (Err e) later) (Pushed held bytes (Err e) later)
      (λ a b q. (q.0 ++ bytes, (q.1.0, q.1.1, left_more q.1.0 q.0 held bytes q.1.2))) p.told;
}

-- all that was held is sent
nothing_left : (sent none held : List ℕ) → none ≡ [] → sent ++ none ≡ held ++ [] → sent ≡ held
nothing_left sent none held empty e = sym (append-nil sent) ∙ ap (λ x. sent ++ x) (sym empty) ∙ e ∙ append-nil held

added : (a b d sent more : List ℕ) → b ≡ a ++ sent → d ≡ b ++ more → d ≡ a ++ (sent ++ more)
added a b d sent more p q = q ∙ ap (λ x. x ++ more) p ∙ append_assoc a sent more

-- what was held is sent, and then these bytes, or a front of them
sent_all : (held bytes none : List ℕ) (result : Result Unit Failed) (a b d : List ℕ) → none ≡ [] → Adds (held ++ []) none a b
    → Appended bytes result b d
    → Pushed held bytes result none a d
sent_all held bytes none (Ok x) a b d empty (sent, p, e) q = (
  sent ++ bytes,
  added a b d sent bytes p q,
  ap (λ x. (sent ++ bytes) ++ x) empty ∙ append-nil (sent ++ bytes) ∙ ap (λ x. x ++ bytes) (nothing_left sent none held empty e),
)
sent_all held bytes none (Err f) a b d empty (sent, p, e) (n, few, q) = (
  drop n bytes,
  (
    sent ++ take n bytes,
    added a b d sent (take n bytes) p q,
    append_assoc sent (take n bytes) (drop n bytes) ∙ ap (λ x. sent ++ x) (take-append-drop n bytes) ∙ ap (λ x. x ++ bytes) (nothing_left sent none held empty e),
  ),
)

pub flushes_puts : (old mid new : Stream) (held bytes none : List ℕ) (result : Result Unit Failed) → Pushes old held [] (Ok tt) none mid → none ≡ []
    → Appends mid bytes result new → Pushes old held bytes result none new
flushes_puts old mid new held bytes none result p empty q = record {
  counts = let a = p.counts in let b = q.counts in omega arith;
  failed = λ e. rose_before old.faults mid.faults new.faults p.counts (q.failed e);
  dropped = λ e. empty;
  told = both_then old.bytes mid.bytes new.bytes (Pushed held [] (Ok tt) none) (Appended bytes result) (Pushed held bytes result none)
      (λ a b d x y. sent_all held bytes none result a b d empty x y) p.told q.told;
}

-- nothing was given yet
pub none_sent : (old : Stream) (held : List ℕ) → Sent old old held held
none_sent old held = record { counts = omega arith; told = both_same old.bytes old.bytes (Adds held held) (λ a. ([], sym (append-nil a), refl)) refl }

joined : (a b d first second held bytes later w : List ℕ) → b ≡ a ++ first → first ++ held ≡ w → d ≡ b ++ second → second ++ later ≡ held ++ bytes
    → Adds (w ++ bytes) later a d
joined a b d first second held bytes later w p e q f = (
  first ++ second,
  added a b d first second p q,
  append_assoc first second later ∙ ap (λ x. first ++ x) f ∙ sym (append_assoc first held bytes) ∙ ap (λ x. x ++ bytes) e,
)

-- more bytes were given behind what was left
pub sent_more : (old mid new : Stream) (bytes held more later : List ℕ) → Sent old mid bytes held → Pushes mid held more (Ok tt) later new
    → Sent old new (bytes ++ more) later
sent_more old mid new bytes held more later s p = record {
  counts = let a = s.counts in let b = p.counts in omega arith;
  told = both_then old.bytes mid.bytes new.bytes (Adds bytes held) (Adds (held ++ more) later) (Adds (bytes ++ more) later)
      (λ a b d x y. joined a b d x.0 y.0 held more later bytes x.1 x.2 y.1 y.2) s.told p.told;
}

-- the sink failed at them
pub sent_front : (old mid new : Stream) (bytes held more later : List ℕ) (e : Failed) → Sent old mid bytes held
    → Pushes mid held more (Err e) later new → SentFront old new (bytes ++ more)
sent_front old mid new bytes held more later e s p = record {
  counts = let a = s.counts in let b = p.counts in omega arith;
  told = both_then old.bytes mid.bytes new.bytes (Adds bytes held) (AddsFront (held ++ more)) (AddsFront (bytes ++ more))
      (λ a b d x y. (y.0, joined a b d x.0 y.1.0 held more y.0 bytes x.1 x.2 y.1.1 y.1.2)) s.told p.told;
}

-- nothing is left
pub sent_all_of : (old new : Stream) (bytes left : List ℕ) → left ≡ [] → Sent old new bytes left → SentAll old new bytes
sent_all_of old new bytes left none s = record {
  counts = s.counts;
  told = both_map old.bytes new.bytes (Adds bytes left) (λ a b. b ≡ a ++ bytes)
      (λ a b x. x.1 ∙ ap (λ y. a ++ y) (sym (append-nil x.0) ∙ ap (λ y. x.0 ++ y) (sym none) ∙ x.2)) s.told;
}

-- whatever is left, a front was sent
pub sent_some : (old new : Stream) (bytes left : List ℕ) → Sent old new bytes left → SentFront old new bytes
sent_some old new bytes left s = record { counts = s.counts; told = both_map old.bytes new.bytes (Adds bytes left) (AddsFront bytes) (λ a b x. (left, x)) s.told }

-- two givings, one behind the other
pub sent_then : (old mid new : Stream) (bytes held more later : List ℕ) → Sent old mid bytes held → Sent mid new (held ++ more) later
    → Sent old new (bytes ++ more) later
sent_then old mid new bytes held more later s p = record {
  counts = let a = s.counts in let b = p.counts in omega arith;
  told = both_then old.bytes mid.bytes new.bytes (Adds bytes held) (Adds (held ++ more) later) (Adds (bytes ++ more) later)
      (λ a b d x y. joined a b d x.0 y.0 held more later bytes x.1 x.2 y.1 y.2) s.told p.told;
}

pub sent_then_front : (old mid new : Stream) (bytes held more : List ℕ) → Sent old mid bytes held → SentFront mid new (held ++ more)
    → SentFront old new (bytes ++ more)
sent_then_front old mid new bytes held more s p = record {
  counts = let a = s.counts in let b = p.counts in omega arith;
  told = both_then old.bytes mid.bytes new.bytes (Adds bytes held) (AddsFront (held ++ more)) (AddsFront (bytes ++ more))
      (λ a b d x y. (y.0, joined a b d x.0 y.1.0 held more y.0 bytes x.1 x.2 y.1.1 y.1.2)) s.told p.told;
}

-- what was left was given too
pub sent_on : (old mid new : Stream) (bytes held later : List ℕ) → Sent old mid bytes held → Sent mid new held later → Sent old new bytes later
sent_on old mid new bytes held later s p = record {
  counts = let a = s.counts in let b = p.counts in omega arith;
  told = both_then old.bytes mid.bytes new.bytes (Adds bytes held) (Adds held later) (Adds bytes later)
      (λ a b d x y. on a b d x.0 y.0 held later bytes x.1 x.2 y.1 y.2) s.told p.told;
}
  where
    on : (a b d first second held later w : List ℕ) → b ≡ a ++ first → first ++ held ≡ w → d ≡ b ++ second → second ++ later ≡ held → Adds w later a d
    on a b d first second held later w p e q f =
        (first ++ second, added a b d first second p q, append_assoc first second later ∙ ap (λ x. first ++ x) f ∙ e)

pub sent_on_front : (old mid new : Stream) (bytes held : List ℕ) → Sent old mid bytes held → SentFront mid new held → SentFront old new bytes
sent_on_front old mid new bytes held s p = record {
  counts = let a = s.counts in let b = p.counts in omega arith;
  told = both_then old.bytes mid.bytes new.bytes (Adds bytes held) (AddsFront held) (AddsFront bytes)
      (λ a b d x y. (y.0, on a b d x.0 y.1.0 held y.0 bytes x.1 x.2 y.1.1 y.1.2)) s.told p.told;
}
  where
    on : (a b d first second held later w : List ℕ) → b ≡ a ++ first → first ++ held ≡ w → d ≡ b ++ second → second ++ later ≡ held → Adds w later a d
    on a b d first second held later w p e q f =
        (first ++ second, added a b d first second p q, append_assoc first second later ∙ ap (λ x. first ++ x) f ∙ e)

-- a push, by itself
pub sent_push : (old new : Stream) (held bytes later : List ℕ) → Pushes old held bytes (Ok tt) later new → Sent old new (held ++ bytes) later
sent_push old new held bytes later p = record { counts = p.counts; told = p.told }

pub sent_push_front : (old new : Stream) (held bytes later : List ℕ) (e : Failed) → Pushes old held bytes (Err e) later new
    → SentFront old new (held ++ bytes)
sent_push_front old new held bytes later e p = record { counts = p.counts; told = p.told }

-- a flush, by itself
pub sent_flush : (old new : Stream) (held later : List ℕ) → later ≡ [] → Pushes old held [] (Ok tt) later new → Sent old new held []
sent_flush old new held later none p = record {
  counts = p.counts;
  told = both_map old.bytes new.bytes (Adds (held ++ []) later) (Adds held []) (λ a b x. (x.0, x.1, ap (λ y. x.0 ++ y) (sym none) ∙ x.2 ∙ append-nil held)) p.told;
}

pub sent_flush_front : (old new : Stream) (held later : List ℕ) (e : Failed) → Pushes old held [] (Err e) later new → SentFront old new held
sent_flush_front old new held later e p = record {
  counts = p.counts;
  told = both_map old.bytes new.bytes (AddsFront (held ++ [])) (AddsFront held) (λ a b x. (x.0, (x.1.0, x.1.1, x.1.2 ∙ append-nil held))) p.told;
}

then_pushed : (held first between second later : List ℕ) (result : Result Unit Failed) (a b d : List ℕ)
    → Adds (held ++ first) between a b → Pushed between second result later b d → Pushed held (first ++ second) result later a d
then_pushed held first between second later (Ok x) a b d p q =
    subst (λ (w : List ℕ). Adds w later a d) (append_assoc held first second) (joined a b d p.0 q.0 between second later (held ++ first) p.1 p.2 q.1 q.2)
then_pushed held first between second later (Err e) a b d p q =
    subst (λ (w : List ℕ). AddsFront w a d) (append_assoc held first second)
    (q.0, joined a b d p.0 q.1.0 between second q.0 (held ++ first) p.1 p.2 q.1.1 q.1.2)

-- two pushes in a row are one of the joined bytes
pub pushes_then : (old mid new : Stream) (held first between second later : List ℕ) (result : Result Unit Failed)
    → Pushes old held first (Ok tt) between mid → Pushes mid between second result later new → Pushes old held (first ++ second) result later new
pushes_then old mid new held first between second later result p q = record {
  counts = let a = p.counts in let b = q.counts in omega arith;
  failed = λ e. rose_before old.faults mid.faults new.faults p.counts (q.failed e);
  dropped = q.dropped;
  told = both_then old.bytes mid.bytes new.bytes (Pushed held first (Ok tt) between) (Pushed between second result later) (Pushed held (first ++ second) result later)
      (λ a b d x y. then_pushed held first between second later result a b d x y) p.told q.told;
}

-- a push that fails gives a front of more bytes too
pub pushes_fails : (old new : Stream) (held first second later : List ℕ) (e : Failed)
    → Pushes old held first (Err e) later new → Pushes old held (first ++ second) (Err e) later new
pushes_fails old new held first second later e p = record {
  counts = p.counts;
  failed = p.failed;
  dropped = p.dropped;
  told = both_map old.bytes new.bytes (Pushed held first (Err e) later) (Pushed held (first ++ second) (Err e) later)
      (λ a b x. (x.0 ++ second, (x.1.0, x.1.1, sym (append_assoc x.1.0 x.0 second) ∙ ap (λ y. y ++ second) x.1.2 ∙ append_assoc held first second))) p.told;
}
