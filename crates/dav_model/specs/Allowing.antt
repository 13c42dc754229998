-- What OPTIONS is answered with: the methods that are answered (RFC 9110, section 9.3.7).
use Rattle.std.specs.Prelude.{◌&&◌, ℕ, List, [], ◌∷◌, Bool, cond, codes, get_or, map, Option}
use Rattle.std.specs.List.{filter, join_by}
use Rattle.dav_core.specs.declared.method.DavMethod.{DavMethod}
use Rattle.dav_core.specs.declared.method.DavMethod.TheVariants.{Copy, Delete, Get, Head, MkAddressbook, MkCalendar, MkCol, Move, Options, Put}
use Rattle.dav_core.specs.declared.method.DavMethodSet.{DavMethodSet}
use Rattle.dav_core.specs.Methods.{place, same_method, words}
use Rattle.dav_model.specs.Gates.{in_allowed}
use Rattle.dav_model.specs.Head.{Reply, field}

-- the methods that are answered, in the order in which they are told
abbrev pub answered : List DavMethod
answered = Options ∷ Head ∷ Get ∷ Put ∷ MkCol ∷ Copy ∷ Move ∷ Delete ∷ MkCalendar ∷ MkAddressbook ∷ []

-- the word of a method
abbrev pub word_of : DavMethod → List ℕ
word_of method = get_or (map (λ row. row.word) words) (place method) []

-- Without a store OPTIONS alone is answered, where it is allowed.
abbrev pub is_told : Option DavMethodSet → Bool → DavMethod → Bool
is_told allow void method = cond (void && in_allowed allow Options) (same_method method Options)
    (in_allowed allow method)

abbrev pub words_told : Option DavMethodSet → Bool → List (List ℕ)
words_told allow void = map word_of (filter (is_told allow void) answered)

-- `void` is whether there is no store.
abbrev pub allowing : Option DavMethodSet → Bool → Reply
allowing allow void = record {
  status = 200;
  fields =
      field (codes "allow") (join_by (λ word. word) (codes ",") (words_told allow void))
      ∷ field (codes "content-length") (codes "0")
      ∷ field (codes "dav") (codes "1,3,calendar-access,addressbook")
      ∷ field (codes "ms-author-via") (codes "DAV")
      ∷ [];
  parts = [];
}
