-- The current account of a call. After the NEAR Nomicon, "Data Structures", Account.
use Rattle.nr_records.specs.declared.account.Account.{Account}
use Rattle.nr_hostctx.specs.Ready.{account_in}
use Rattle.nr_hostctx.specs.State.{HostState}

abbrev pub account_of : HostState → Account
account_of s = account_in s.world s.context.current
