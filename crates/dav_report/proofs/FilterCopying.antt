-- A copy of filters while it is made: what is done, inside the filters that are open.
use Rattle.std.proofs.Common.{◌≡◌, ℕ, ◌+◌, ◌<◌, List, [], ◌∷◌, ◌++◌, refl, sym, ap, ◌∙◌, subst, arith}
use Rattle.dav_report.specs.Filters.{Asked, Filters, no_filters, and_filter, joined}
use Rattle.dav_report.specs.FilterLists.{asked_by, filters_of}
use Rattle.dav_report.specs.declared.caldav.component_filter.ComponentFilter.{ComponentFilter}
use Rattle.dav_report.specs.declared.caldav.copying.Open.{Open}
use Rattle.dav_calendar.specs.EventsTellNested.{joined-bare}
use Rattle.dav_calendar.proofs.NestedWaiting.{weight}
use Rattle.dav_lock.proofs.Opened.{left_at, left_at-append}

-- the whole list of filters, where these stand in the innermost open one
abbrev pub held : List Open → Filters → Filters
held [] f = f
held (o ∷ os) f = joined o.before (and_filter (asked_by o.filter) (held os f) (filters_of o.behind.now))

pub held-append : (os : List Open) (o : Open) (f : Filters)
    → held (os ++ o ∷ []) f ≡ held os (joined o.before (and_filter (asked_by o.filter) f (filters_of o.behind.now)))
held-append [] o f = refl
held-append (p ∷ os) o f = ap (λ g. joined p.before (and_filter (asked_by p.filter) g (filters_of p.behind.now))) (held-append os o f)

-- one filter from the rest to what is done
pub joined_more : (d : Filters) (a : Asked) (inner r : Filters)
    → joined (joined d (and_filter a inner no_filters)) r ≡ joined d (and_filter a inner r)
joined_more no_filters a inner r = refl
joined_more (and_filter b i d) a inner r = ap (and_filter b i) (joined_more d a inner r)

-- a filter is opened
pub open_step : (os all : List Open) (o : Open) (f : Filters) (left : List ComponentFilter) (x : ComponentFilter) → all ≡ os ++ o ∷ []
    → left ≡ x ∷ o.behind.now → asked_by x ≡ asked_by o.filter → held os (joined o.before (filters_of left)) ≡ f
    → held all (joined no_filters x.comp_filters) ≡ f
open_step os all o f left x pushed step is h =
    ap (λ ps. held ps x.comp_filters) pushed ∙ held-append os o x.comp_filters ∙ ap (λ a. held os (joined o.before (and_filter a x.comp_filters (filters_of o.behind.now)))) (sym is)
    ∙ subst (λ (xs : List ComponentFilter). held os (joined o.before (filters_of xs)) ≡ f) step h

-- the innermost open filter is closed
pub close_step : (os all : List Open) (o : Open) (d f : Filters) (left : List ComponentFilter) → all ≡ os ++ o ∷ [] → left ≡ []
    → held all (joined d (filters_of left)) ≡ f
    → held os (joined (joined o.before (and_filter (asked_by o.filter) d no_filters)) (filters_of o.behind.now)) ≡ f
close_step os all o d f left popped none h =
    ap (held os) (joined_more o.before (asked_by o.filter) d (filters_of o.behind.now)) ∙ sym (held-append os o d) ∙ ap (λ g. held (os ++ o ∷ []) g) (sym (joined-bare d))
    ∙ subst (λ (ps : List Open). held ps (joined d no_filters) ≡ f) popped (subst (λ (xs : List ComponentFilter). held all (joined d (filters_of xs)) ≡ f) none h)

-- nothing is open or left
pub all_done : (all : List Open) (d f : Filters) (left : List ComponentFilter) → all ≡ [] → left ≡ [] → held all (joined d (filters_of left)) ≡ f
    → d ≡ f
all_done all d f left closed none h =
    sym (joined-bare d) ∙ subst (λ (ps : List Open). held ps (joined d no_filters) ≡ f) closed (subst (λ (xs : List ComponentFilter). held all (joined d (filters_of xs)) ≡ f) none h)

-- what is left to do behind the open filters, and to close them
abbrev pub weight_behind : Open → ℕ
weight_behind o = weight (filters_of o.behind.now)

abbrev pub open_weight : List Open → ℕ
open_weight os = left_at weight_behind os

pub opens_less : (os all : List Open) (o : Open) (left : List ComponentFilter) (x : ComponentFilter) → all ≡ os ++ o ∷ [] → left ≡ x ∷ o.behind.now
    → open_weight all + weight x.comp_filters < open_weight os + weight (filters_of left)
opens_less os all o left x pushed step = rw (pushed, step) (omega (arith, left_at-append weight_behind os o))
