-- The table of accepted requests: type, subtype, least number of data octets
use Rattle.std.specs.Prelude.{ℕ, Bool, cond, ◌&&◌, List, [], ◌∷◌, Some, None, Ok, Err, Option, Result, ◌==◌, nat_lt}
use Rattle.std.specs.List.{find as first, list_any}
use Rattle.request.specs.declared.rejection.Rejection.{Rejection}
use Rattle.request.specs.declared.rejection.Rejection.TheVariants.{UnknownType, UnknownSubtype, DataLength}
use Rattle.request.specs.declared.table.Kind.{Kind}
use Rattle.request.specs.declared.table.Kind.TheVariants.{Enable, Disable, Status, ConnectionTest}
use Rattle.request.specs.declared.table.Row.{Row}

abbrev pub row : ℕ → ℕ → ℕ → Kind → Row
row s u n k = record { service = s; subtype = u; least = n; kind = k }

abbrev pub rows : List Row
rows = row 11 1 2 Enable ∷ row 11 2 2 Disable ∷ row 11 18 2 Status ∷ row 17 1 0 ConnectionTest ∷ []

-- the first row of a type and subtype
abbrev pub find : ℕ → ℕ → List Row → Option Row
find s u xs = first (λ x. x.service == s && x.subtype == u) xs

-- whether any row is of a type
abbrev pub has_type : ℕ → List Row → Bool
has_type s xs = list_any (λ x. x.service == s) xs

-- the kind of a request with n octets of data: an unknown type, then an unknown subtype, then too few data are refused
abbrev pub chosen : ℕ → ℕ → ℕ → Bool → Option Row → Result Kind Rejection
chosen s u n known None = cond known (Err (UnknownSubtype s u)) (Err (UnknownType s u))
chosen s u n known (Some x) = cond (nat_lt n x.least) (Err (DataLength n)) (Ok x.kind)

abbrev pub kind_of : ℕ → ℕ → ℕ → Result Kind Rejection
kind_of s u n = chosen s u n (has_type s rows) (find s u rows)
