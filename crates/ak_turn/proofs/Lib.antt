mod Lists
mod Entries
mod Views
mod Keeps
mod Ends
mod Wraps
mod Laws
