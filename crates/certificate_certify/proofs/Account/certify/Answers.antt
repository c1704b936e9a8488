use Rattle.std.proofs.Common.{rules}
use Rattle.certificate_certify.specs.Accounts.{account_by}
use Rattle.certificate_pairing.proofs.Floors.{floor_under_cost}
use Rattle.certificate_pairing.proofs.Standing.{lines_pair}
use Rattle.certificate_certify.proofs.Promise.{certified}
use Rattle.certificate_certify.proofs.Account.certify.Goals as goal

pub returns-in-Some-clause-certified : goal.returns-in-Some-clause-certified
returns-in-Some-clause-certified g c = λ sound.
    let a = c.args.self.now in
    certified (account_by g.B.Book.tables a) (g.met.B.Book.lawful a.book.now) c.args.marks.now sound _ (search rules)

pub returns-in-Some-first_breach-clause-certified : goal.returns-in-Some-first_breach-clause-certified
returns-in-Some-first_breach-clause-certified g c = λ sound.
    let a = c.args.self.now in
    certified (account_by g.B.Book.tables a) (g.met.B.Book.lawful a.book.now) c.args.marks.now sound _ (search rules)

pub returns-clause-certified : goal.returns-clause-certified
returns-clause-certified g c = λ sound.
    let a = c.args.self.now in
    certified (account_by g.B.Book.tables a) (g.met.B.Book.lawful a.book.now) c.args.marks.now sound _ (search rules)

pub returns-in-Some-clause-floor : goal.returns-in-Some-clause-floor
returns-in-Some-clause-floor g c = floor_under_cost

pub returns-in-Some-clause-claims : goal.returns-in-Some-clause-claims
returns-in-Some-clause-claims g c = lines_pair

pub returns-in-Some-first_breach-clause-floor : goal.returns-in-Some-first_breach-clause-floor
returns-in-Some-first_breach-clause-floor g c = floor_under_cost

pub returns-in-Some-first_breach-clause-claims : goal.returns-in-Some-first_breach-clause-claims
returns-in-Some-first_breach-clause-claims g c = lines_pair

pub returns-clause-floor : goal.returns-clause-floor
returns-clause-floor g c = floor_under_cost

pub returns-clause-claims : goal.returns-clause-claims
returns-clause-claims g c = lines_pair

pub returns-then-marks-held-clause-floor : goal.returns-then-marks-held-clause-floor
returns-then-marks-held-clause-floor g c = floor_under_cost

pub returns-then-marks-held-clause-claims : goal.returns-then-marks-held-clause-claims
returns-then-marks-held-clause-claims g c = lines_pair
