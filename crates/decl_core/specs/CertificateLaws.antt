-- What a certificate says of an object, and that there is one at most.
use Rattle.std.specs.Prelude.{◌≡◌, List}
use Rattle.decl_core.specs.ObjectForm.{ObjectForm}
use Rattle.decl_core.specs.declared.certificate.SeparatedPair.{SeparatedPair}
use Rattle.decl_core.specs.Exclusive.{IsExclusive}
use Rattle.decl_core.specs.Certificate.{IsCertificate, IsFirstCertificate}

-- An object that has a certificate is exclusive.
abbrev pub CertifiedIsExclusive : Type 0
CertifiedIsExclusive = (o : ObjectForm) (entries : List SeparatedPair) → IsCertificate o entries → IsExclusive o

-- Two certificates of one object, each entry with the first path and in it the first node that separates, are the same.
abbrev pub OneFirstCertificate : Type 0
OneFirstCertificate =
    (o : ObjectForm) (es fs : List SeparatedPair) → IsFirstCertificate o es → IsFirstCertificate o fs → es ≡ fs
