-- The answer that gives the page of a directory.
use Rattle.std.specs.Prelude.{◌≡◌, ◌++◌, ℕ, List, [], ◌∷◌, Bool, true, false, codes, map}
use Rattle.std.specs.List.Sorted.{IsPermutation}
use Rattle.dav_io.specs.declared.fields.Field.{Field}
use Rattle.dav_core.specs.declared.member.Member.{Member}
use Rattle.dav_core.specs.DavPath.{WebPath}
use Rattle.dav_page.specs.declared.row.PageRow.{PageRow}
use Rattle.dav_page.specs.Index.{IsIndex}
use Rattle.dav_page.specs.Listed.{AreRows}
use Rattle.dav_model.specs.Bodies.{Part, text}
use Rattle.dav_model.specs.Head.{Reply, field}

-- Its type alone is told. (Its length isn't: it is sent in chunks, or up to the end of the connection.)
abbrev pub page_fields : List Field
page_fields = field (codes "content-type") (codes "text/html; charset=utf-8") ∷ []

-- The parts are texts, which joined are a page of this directory with such rows. HEAD has no body.
abbrev pub IsIndexBody : Bool → WebPath → (List PageRow → Type 0) → List Part → Type 0
IsIndexBody true dir Rows parts = (texts : List (List ℕ)) × (parts ≡ map text texts) × IsIndex dir Rows texts
IsIndexBody false dir Rows parts = parts ≡ []

-- The page of this directory with such rows is given; `gives` is whether a body follows.
pub record IsIndexReply (gives : Bool) (dir : WebPath) (Rows : List PageRow → Type 0) (reply : Reply) : Type 0 where
  pub status : reply.status ≡ 200
  pub fields : reply.fields ≡ page_fields
  pub parts : IsIndexBody gives dir Rows reply.parts

-- The rows are those of some of the members, each once and in order. The others are missing where the disk failed.
pub record AreRowsOfSome (dir : WebPath) (all : List Member) (rows : List PageRow) : Type 0 where
  pub some : List Member
  pub missing : List Member
  pub parts : IsPermutation all (some ++ missing)
  pub shown : AreRows dir some rows
