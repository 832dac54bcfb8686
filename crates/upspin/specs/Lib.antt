pub mod ProgramWords
