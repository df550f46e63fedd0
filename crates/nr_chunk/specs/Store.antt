-- The store in which each shard's state stands. This project's own.
use Rattle.nr_trieupdate.specs.declared.trie_store.TrieStore.{TrieStore}

abbrev pub StateStore : Type 0
StateStore = TrieStore
