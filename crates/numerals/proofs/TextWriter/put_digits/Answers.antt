-- From 100 on a number is its hundredth and two digits, and from 10,000 on its hundredth is so too.
use mathlib.Core.List.{◌++◌}
use mathlib.Core.Path.{refl}
use borrow.Author.Rules.{rules}
use Rattle.numerals.specs.Pair.{pair}
use Rattle.numerals.proofs.Pairs.{decimal_hundreds, decimal_myriads}
use Rattle.numerals.proofs.Puts.{room_front, rest_whole, rest_less}
use Rattle.numerals.proofs.TextWriter.put_digits.Goals as goal

-- up to four digits
pub put_short-requires-then-n-lt10000-clause-room : goal.put_short-requires-then-n-lt10000-clause-room
put_short-requires-then-n-lt10000-clause-room c =
    let parts = decimal_hundreds c.args.n (search rules) (search rules) in
    room_front c.args.self.now _ (pair _) (rw parts at c.requires)

pub put_pair-requires-clause-room : goal.put_pair-requires-clause-room
put_pair-requires-clause-room c =
    let parts = decimal_hundreds c.args.n (search rules) (search rules) in
    (rest_less (rest_whole c.requires) parts c.put_short-then-n-lt10000.ensures).room

pub returns-then-n-lt10000 : goal.returns-then-n-lt10000
returns-then-n-lt10000 c =
    let parts = decimal_hundreds c.args.n (search rules) (search rules) in
    (rest_less (rest_whole c.requires) parts c.put_short-then-n-lt10000.ensures).whole c.put_pair.ensures

-- five
pub put_short-requires-then-n-lt100000-clause-room : goal.put_short-requires-then-n-lt100000-clause-room
put_short-requires-then-n-lt100000-clause-room c =
    let parts = decimal_myriads c.args.n (search rules) (search rules) in
    room_front c.args.self.now _ (pair _ ++ pair _) (rw parts at c.requires)

pub put_pair-requires-then-n-lt100000-clause-room : goal.put_pair-requires-then-n-lt100000-clause-room
put_pair-requires-then-n-lt100000-clause-room c =
    let parts = decimal_myriads c.args.n (search rules) (search rules) in
    let room = (rest_less (rest_whole c.requires) parts c.put_short-then-n-lt100000.ensures).room in
    search rules

pub put_pair-requires-then-n-lt100000-2-clause-room : goal.put_pair-requires-then-n-lt100000-2-clause-room
put_pair-requires-then-n-lt100000-2-clause-room c =
    let parts = decimal_myriads c.args.n (search rules) (search rules) in
    let rest = rest_less (rest_whole c.requires) parts c.put_short-then-n-lt100000.ensures in
    (rest_less rest refl c.put_pair-then-n-lt100000.ensures).room

pub returns-then-n-lt100000 : goal.returns-then-n-lt100000
returns-then-n-lt100000 c =
    let parts = decimal_myriads c.args.n (search rules) (search rules) in
    let rest = rest_less (rest_whole c.requires) parts c.put_short-then-n-lt100000.ensures in
    (rest_less rest refl c.put_pair-then-n-lt100000.ensures).whole c.put_pair-then-n-lt100000-2.ensures
