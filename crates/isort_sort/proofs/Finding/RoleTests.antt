-- What the tests of a role say of one another.
use Rattle.std.proofs.Common.{◌≡◌, true, false, [], refl}
use Rattle.isort_sort.specs.Row.{Role, member, comments, blank, as_many, one}
use Rattle.isort_sort.specs.Blocks.{role_is_member, role_stands_between, role_is_blank, role_comments}
use Rattle.isort_sort.specs.BlocksReplaced.{role_is_comments}
use Rattle.isort_sort.specs.Sorted.{before_role}

-- the role of a member, of comments, and of a blank line
pub record IsOfMember (role : Role) : Type 0 where
  pub between : role_stands_between role ≡ false
  pub no_blank : role_is_blank role ≡ false
  pub asks : before_role role ≡ one

pub record IsOfComments (role : Role) : Type 0 where
  pub no_member : role_is_member role ≡ false
  pub between : role_stands_between role ≡ true
  pub no_blank : role_is_blank role ≡ false
  pub asks : before_role role ≡ as_many

pub record IsOfBlank (role : Role) : Type 0 where
  pub no_member : role_is_member role ≡ false
  pub between : role_stands_between role ≡ true
  pub no_comments : role_comments role ≡ []

pub of_member : (role : Role) → role_is_member role ≡ true → IsOfMember role
of_member (member is cs) h = record { between = refl; no_blank = refl; asks = refl }
of_member _ h = absurd (cc)

pub of_comments : (role : Role) → role_is_comments role ≡ true → IsOfComments role
of_comments (comments cs) h = record { no_member = refl; between = refl; no_blank = refl; asks = refl }
of_comments _ h = absurd (cc)

pub of_blank : (role : Role) → role_is_blank role ≡ true → IsOfBlank role
of_blank blank h = record { no_member = refl; between = refl; no_comments = refl }
of_blank _ h = absurd (cc)

-- what stands between members is no member
pub no_member : (role : Role) → role_stands_between role ≡ true → role_is_member role ≡ false
no_member (comments cs) h = refl
no_member blank h = refl
no_member _ h = absurd (cc)
