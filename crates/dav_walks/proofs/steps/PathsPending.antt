-- A walk's one path stands for the paths of the tables.
use Rattle.std.proofs.Common.{◌≡◌, ◌<◌, ◌+◌, ◌++◌, List, [], ◌∷◌, map, length, get_or, Bool, true, false, Ok, Err, refl, sym, ap, subst, ◌∙◌, arith}
use Rattle.std.proofs.lemmas.List.{get_or-map, length-map}
use Rattle.std.specs.Cmp.Lexicographic.{slice_cmp}
use Rattle.std.specs.List.Sorted.{IsSortedByKey}
use Rattle.std.specs.Ordering.{is_lt, nat_cmp}
use Rattle.dav_core.specs.declared.dav_error.DavError.{DavError}
use Rattle.dav_core.specs.declared.dav_error.DavError.TheVariants.{Status}
use Rattle.dav_core.specs.DavPath.{WebPath}
use Rattle.dav_core.specs.Path.{Names}
use Rattle.dav_core.proofs.Paths.{parent_pushed}
use Rattle.dav_walks.specs.declared.child.Child.{Child}
use Rattle.dav_walks.specs.declared.ends.Ends.{Ends}
use Rattle.dav_walks.specs.declared.member.Member.{Member}
use Rattle.dav_walks.specs.declared.pending.Pending.{Pending}
use Rattle.dav_walks.specs.declared.pending.Pending.TheVariants.{Below, Up}
use Rattle.dav_walks.specs.declared.work.Work.{Work}
use Rattle.dav_walks.specs.declared.work.Work.TheVariants.{Whole}
use Rattle.dav_walks.specs.Copying.{transfer_of}
use Rattle.dav_walks.specs.Lines.{above, fails_when}
use Rattle.dav_walks.specs.Removing.{work_of}
use Rattle.dav_walks.specs.Walking.{ends_above, ends_below, member_at, members_at, transfers_at, works_at}
use Rattle.dav_walks.specs.Weights.{weight, weight_of}

-- ---- how deep

pub is_shallow : (deep : Bool) → Ok tt ≡ fails_when deep 403 → deep ≡ false
is_shallow false e = refl
is_shallow true e = cc

pub is_refused : (deep : Bool) (e : DavError) → Err e ≡ fails_when deep 403 → (deep ≡ true) × (e ≡ Status 403)
is_refused true e is = (refl, cc)
is_refused false e is = cc

-- ---- down and up again

abbrev pub slashed : WebPath → WebPath
slashed path = record path { slash = true }

pub up_again : (path : WebPath) (m : Member) → above (member_at path m).path ≡ slashed path
up_again path m = ap (λ (names : Names). record path { names = names; slash = true }) (parent_pushed path.names m.name)

has_slash : (path : WebPath) → path.slash ≡ true → slashed path ≡ path
has_slash path e = ap (λ (b : Bool). record path { slash = b }) (sym e)

pub same_again : (path : WebPath) (m : Member) → path.slash ≡ true → above (member_at path m).path ≡ path
same_again path m e = up_again path m ∙ has_slash path e

abbrev pub slashed_ends : Ends → Ends
slashed_ends ends = record { from = slashed ends.from; to = slashed ends.to }

pub ends_again : (ends : Ends) (m : Member) → ends_above (ends_below ends m) ≡ slashed_ends ends
ends_again ends m =
    ap (λ (p : WebPath). record { from = p; to = above (member_at ends.to m).path }) (up_again ends.from m)
    ∙ ap (λ (p : WebPath). record { from = slashed ends.from; to = p }) (up_again ends.to m)

-- Whether the path ends with a slash is the same to what is pending below.
pub transfers_slashed : (ends : Ends) (works : List Pending) → transfers_at (slashed_ends ends) works ≡ transfers_at ends works
transfers_slashed ends [] = refl
transfers_slashed ends (Below m ∷ works) = ap (λ xs. transfer_of ends.to (member_at ends.from m) ∷ xs) (transfers_slashed ends works)
transfers_slashed ends (Up ∷ works) = refl

pub weighs_slashed : (path : WebPath) (works : List Pending) → weight (works_at (slashed path) works []) ≡ weight (works_at path works [])
weighs_slashed path [] = refl
weighs_slashed path (Below m ∷ works) = ap (λ n. weight_of (Whole (member_at path m).path m.dir) + n) (weighs_slashed path works)
weighs_slashed path (Up ∷ works) = refl

-- ---- members before what is pending

pub works_joined : (path : WebPath) (members : List Member) (works : List Pending) (last : List Work)
    → works_at path (map Below members ++ works) last ≡ map work_of (members_at path members) ++ works_at path works last
works_joined path [] works last = refl
works_joined path (m ∷ members) works last = ap (λ xs. work_of (member_at path m) ∷ xs) (works_joined path members works last)

pub transfers_joined : (ends : Ends) (members : List Member) (works : List Pending)
    → transfers_at ends (map Below members ++ works) ≡ map (transfer_of ends.to) (members_at ends.from members) ++ transfers_at ends works
transfers_joined ends [] works = refl
transfers_joined ends (m ∷ members) works = ap (λ xs. transfer_of ends.to (member_at ends.from m) ∷ xs) (transfers_joined ends members works)

-- the last member goes before what is pending
pub push_one : (rest all : List Member) (m : Member) (works new : List Pending) → all ≡ rest ++ m ∷ [] → new ≡ Below m ∷ works → map Below rest ++ new ≡ map Below all ++ works
push_one rest all m works new split put = ap (λ xs. map Below rest ++ xs) put ∙ (joined rest ∙ ap (λ ms. map Below ms ++ works) (sym split))
  where
    joined : (front : List Member) → map Below front ++ Below m ∷ works ≡ map Below (front ++ m ∷ []) ++ works
    joined [] = refl
    joined (n ∷ front) = ap (λ xs. Below n ∷ xs) (joined front)

-- ---- members in order

-- members in the order of their names are so at each path
pub in_order_at : (path : WebPath) (members : List Member) → IsSortedByKey (λ m. m.name) (slice_cmp nat_cmp) members
    → IsSortedByKey (λ m. m.name) (slice_cmp nat_cmp) (members_at path members)
in_order_at path members sorted k d p q =
    let own : Member = record { name = d.name; dir = d.dir } in
    let long : length (members_at path members) ≡ length members = length-map members (member_at path) in
    let here : k + 1 < length members = omega (arith, long) in
    let one : get_or (members_at path members) k d ≡ member_at path (get_or members k own) = get_or-map (member_at path) members k own d (omega (arith, here)) in
    let next : get_or (members_at path members) (k + 1) d ≡ member_at path (get_or members (k + 1) own) = get_or-map (member_at path) members (k + 1) own d here in
    subst (λ (x : Child). is_lt (slice_cmp nat_cmp (get_or (members_at path members) (k + 1) d).name x.name) ≡ false) (sym one)
    (subst (λ (x : Child). is_lt (slice_cmp nat_cmp x.name (member_at path (get_or members k own)).name) ≡ false) (sym next)
    (sorted k own (omega (arith, here)) here))
