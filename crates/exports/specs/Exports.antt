-- The request check alone: what a request's meaning is to a C program
use Rattle.std.specs.Prelude.{Ok, Err, Result}
use Rattle.request.specs.declared.rejection.Rejection.{Rejection}
use Rattle.request.specs.Rejection.{code_of, a_of, b_of}
use Rattle.request.specs.Request.{Told}
use Rattle.exports.specs.declared.RequestCheck.{RequestCheck}

-- 65535 is no failure's code: it says that the request passes
abbrev pub check_of : Result Told Rejection → RequestCheck
check_of (Ok t) = record { code = 65535; a = 0; b = 0 }
check_of (Err e) = record { code = code_of e; a = a_of e; b = b_of e }
