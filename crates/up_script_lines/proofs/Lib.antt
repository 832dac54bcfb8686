pub mod UserListLemmas
