-- What a body in its place stands for, and what calls on it answer.
use Rattle.std.specs.Prelude.{drop, Ok, Err, Result, ⊤}
use Rattle.encodings.specs.declared.fault.CertificateFault.{CertificateFault}
use Rattle.encodings.specs.Bodies.{Body, Reply}
use Rattle.certificates.specs.declared.body.Body as code

abbrev pub body_of : code.Body → Body
body_of b = record { start = b.start; at = b.at; left = drop b.at b.bytes.now }

-- a value and the body behind it
abbrev pub taken : {X : Type 0} → Result X CertificateFault → Body → Reply X
taken (Ok x) b = Ok (x, b)
taken (Err e) b = Err e

-- a size that is as it has to be
abbrev pub sized_as : Body → Result ⊤ CertificateFault → Result Body CertificateFault
sized_as b (Ok u) = Ok b
sized_as b (Err e) = Err e
